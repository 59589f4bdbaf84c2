-- Groups open, and tokens are kept and given for their ends: no list gets another holder.
use Rattle.std.proofs.Common.{◌≡◌, ℕ, List, Option, Result, Ok, Err, refl, ap, ◌∙◌, arith}
use Rattle.std.specs.Prelude.{OnOk, OnErr}
use Rattle.tex_defs.specs.declared.Full.{Full}
use Rattle.tex_defs.specs.declared.Meaning.{Meaning}
use Rattle.tex_defs.specs.declared.Sizes.{Sizes}
use Rattle.plain_tokens.specs.Meanings.{name_meaning}
use Rattle.token_lists.specs.declared.Build.{Build}
use Rattle.token_lists.specs.Table.{Entry}
use Rattle.save_stack.specs.declared.Closed.{Closed}
use Rattle.save_stack.specs.declared.Closed.TheVariants.{After, Done}
use Rattle.equivalents.specs.Holding.{list_of}
use Rattle.eqtb_save.specs.Table.{Table, GivesNext}
use Rattle.eqtb_save.specs.Holding as eqtb
use Rattle.input_stack.specs.declared.stack.InputStack.{InputStack}
use Rattle.input_state.specs.declared.gathering.Gathering as code
use Rattle.input_state.specs.declared.gathering.Gathering.TheVariants as call
use Rattle.input_state.specs.HeldViews.{named, IsCall, IsSound}

-- names mean what they meant
pub record KeepsNames (m n : Table) : Type 0 where
  pub names : n.groups.now.meanings ≡ m.groups.now.meanings
  pub sizes : n.sizes ≡ m.sizes

same_table : (m n u : Table) → KeepsNames m u → n ≡ u → KeepsNames m n
same_table m n u keeps is = record {
  names = ap (λ (t : Table). t.groups.now.meanings) is ∙ keeps.names;
  sizes = ap (λ (t : Table). t.sizes) is ∙ keeps.sizes;
}

pub either_table : {A : Type 0} (r : Result A Full) (m n u : Table) → KeepsNames m u → OnOk r (n ≡ u) → OnErr r (n ≡ m) → KeepsNames m n
either_table (Ok x) m n u keeps ok err = same_table m n u keeps ok
either_table (Err f) m n u keeps ok err = same_table m n m (record { names = refl; sizes = refl }) err

pub given_table : (r : Closed) (m n : Table) → GivesNext r m n → KeepsNames m n
given_table (After token) m n gives = same_table m n _ (record { names = refl; sizes = refl }) gives.1.1
given_table (Done kind) m n gives = same_table m n _ (record { names = refl; sizes = refl }) gives.1.1

module _ (table : List (Option Entry)) (s : InputStack) (making : Option Build) (gathered : List Build) (m n : Table) (k : code.Gathering) (sizes : Sizes) (capacity : ℕ)
    (sound : IsSound table s making gathered (named m k) sizes capacity) (keeps : KeepsNames m n) (same : (h : ℕ) → eqtb.held n h ≡ eqtb.held m h) where
  still_called : (j : code.Gathering) → IsCall table m j → IsCall table n j
  still_called call.None is = tt
  still_called (call.Gathers name scan) is = record { id = is.id; list = ap (λ (ms : List (Meaning (Option ℕ))). list_of (name_meaning ms name)) keeps.names ∙ is.list; sound = is.sound }
  still_called (call.Stopped name why scan) is = is
  still_called (call.Gathered name args) is = record { id = is.id; list = ap (λ (ms : List (Meaning (Option ℕ))). list_of (name_meaning ms name)) keeps.names ∙ is.list; filled = is.filled; listed = is.listed }

  pub still_sound : IsSound table s making gathered (named n k) sizes capacity
  still_sound = record {
    shared = record {
      stands = sound.shared.stands;
      fronts = sound.shared.fronts;
      building = sound.shared.building;
      counted = λ h. omega (arith, sound.shared.counted h, same h);
      apart = record {
        sole = λ h. sound.shared.apart.sole h;
        apart = λ h more. omega (arith, sound.shared.apart.apart h more, same h);
      };
      all_lists = λ h some. sound.shared.all_lists h (omega (arith, some, same h));
      listed = sound.shared.listed;
    };
    sized = record {
      memory = sound.sized.memory;
      levels = sound.sized.levels;
      parameters = sound.sized.parameters;
      equivalents = keeps.sizes ∙ sound.sized.equivalents;
      room = sound.sized.room;
      ranges = sound.sized.ranges;
    };
    call = still_called k sound.call;
  }
