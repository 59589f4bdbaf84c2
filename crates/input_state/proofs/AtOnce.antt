-- What is handed on at once is what is read.
use Rattle.std.proofs.Common.{◌≡◌, ◌≢◌, ℕ, List, [], length, Option, None, Some, Ok, false, refl, sym, ap, ◌∙◌, subst, arith}
use Rattle.std.specs.Prelude.{IfSome, IsSome}
use Rattle.tex_defs.specs.declared.Token.{Token}
use Rattle.tex_defs.specs.declared.Sizes.{Sizes}
use Rattle.plain_tokens.specs.Pending as plain
use Rattle.plain_tokens.specs.Puts.{Put}
use Rattle.plain_tokens.specs.Tables.{refused}
use Rattle.line_lexer.specs.declared.Ahead.TheVariants as ahead
use Rattle.token_lists.specs.declared.Build.{Build}
use Rattle.token_lists.specs.Table.{Entry}
use Rattle.token_lists.specs.Accounts.{Keeps, none}
use Rattle.equivalents.specs.Holding.{lists_held}
use Rattle.input_stack.specs.Puts.{Item, Text, First, Later, Gap, next_item}
use Rattle.input_stack.specs.CallViews.{met_of, opens}
use Rattle.input_stack.specs.Pending.{Pending, Below}
use Rattle.input_stack.specs.Pulls.{refused_at}
use Rattle.input_stack.specs.View.{innermost, pending, held}
use Rattle.input_stack.specs.Stacks.{IsStack}
use Rattle.input_stack.specs.Lasting.{LastsBut}
use Rattle.input_stack.specs.AtOnce.{PullsAtOnce}
use Rattle.input_stack.specs.declared.level.Pulled.TheVariants as given_as
use Rattle.input_stack.specs.declared.stack.InputStack.{InputStack}
use Rattle.input_stack.proofs.AtOnce.{pulls_at_once}
use Rattle.input_state.specs.declared.answer.Pulled.TheVariants as answer
use Rattle.input_state.specs.AtOnce.{GivesAtOnce}
use Rattle.input_state.specs.FileLeft.{FileLeft, FilesLeft}
use Rattle.input_state.specs.HeldLists.{HeldLists, pending_of, ahead_of}
use Rattle.input_state.specs.HeldViews.{Named, fronts, covers, texts, lists_of, all_builds, puts_in, AreFronts, IsSound}
use Rattle.input_state.specs.InputViews.{stored_of, IsTied}
use Rattle.input_state.specs.Macros.{KeepsLists}
use Rattle.input_state.specs.Reads.{step_demands, pull_refusal}
use Rattle.input_state.specs.Reads as reads
use Rattle.input_state.specs.Stored.{Stored}
use Rattle.equivalents.specs.Parameters.{end_of_line}
use Rattle.plain_tokens.specs.Pending.{takes_file}
use Rattle.input_state.proofs.Files.{reads_of}
use Rattle.input_state.proofs.ListViews.{macros_moved}
use Rattle.input_state.proofs.Pulling.{seen, item_ahead, item_seen, item_needs, pull_fronts, pull_fewer}
use Rattle.input_state.proofs.Shares.{Fewer}
use Rattle.input_state.proofs.Sounds.{levels_moved, levels_sound}
use Rattle.input_state.proofs.Sources.{all_fronts}

closed_room : (size : ℕ) (x : Item) (p : Pending) → opens (met_of x) ≡ false → refused_at size x p ≡ None
closed_room size (Text t) p is = refl
closed_room size (First n t) p is = cc
closed_room size (Later n t) p is = refl
closed_room size Gap p is = refl

-- The levels have handed a token on at once, or nothing has changed.
module _ (table : List (Option Entry)) (s s' : InputStack) (making : Option Build) (gathered : List Build) (m : Named) (sizes : Sizes) (capacity : ℕ) (sound : IsSound table s making gathered m sizes capacity) (stands : IsStack table s') (same : (k : ℕ) → held s' k ≡ held s k) (size : s'.size ≡ s.size) (parameters : s'.parameter_size ≡ s.parameter_size) where
  abbrev before : HeldLists
  before = lists_of table (pending table s) making gathered m sizes

  abbrev behind : HeldLists
  behind = lists_of table (pending table s') making gathered m sizes

  keeps : Keeps table table (held s)
  keeps = record { tokens = λ k l. refl; places = λ k l. refl }

  lasting : LastsBut table table none
  lasting = record { size = refl; fewer = λ k. omega arith; tokens = λ k l. refl }

  simple : (o : Option Token) → IfSome o (λ t. PullsAtOnce (pending table s) (pending table s') t) → (o ≡ None → pending table s' ≡ pending table s) → AreFronts (puts_in (pending table s'))
  simple None h stays = subst (λ (p : Pending). AreFronts (puts_in p)) (sym (stays refl)) sound.shared.fronts
  simple (Some t) h stays = pull_fronts s.size [] [] [] (pending table s) (pending table s') (Ok (given_as.Token t)) (pulls_at_once s.size [] [] (pending table s) (pending table s') t h) sound.shared.fronts

  few : (o : Option Token) → IfSome o (λ t. PullsAtOnce (pending table s) (pending table s') t) → (o ≡ None → pending table s' ≡ pending table s) → Fewer (puts_in (pending table s')) (puts_in (pending table s))
  few None h stays = subst (λ (p : Pending). Fewer (puts_in p) (puts_in (pending table s))) (sym (stays refl)) (record { owns = λ k. omega arith; bodies = λ k. omega arith; cells = λ k. omega arith })
  few (Some t) h stays = pull_fewer s.size [] [] [] (pending table s) (pending table s') (Ok (given_as.Token t)) (pulls_at_once s.size [] [] (pending table s) (pending table s') t h)

  pub some_sound : (o : Option Token) → IfSome o (λ t. PullsAtOnce (pending table s) (pending table s') t) → (o ≡ None → pending table s' ≡ pending table s) → IsSound table s' making gathered m sizes capacity
  some_sound o h stays = levels_sound table table s s' making gathered m sizes capacity none sound stands (λ k. omega (arith, same k)) keeps lasting size parameters (simple o h stays) (few o h stays)

  pub some_macros : (o : Option Token) → IfSome o (λ t. PullsAtOnce (pending table s) (pending table s') t) → (o ≡ None → pending table s' ≡ pending table s) → (v : HeldLists) → before ≡ v → KeepsLists (lists_held m.table.groups) (all_fronts table (pending table s')) v.lists (texts table)
  some_macros o h stays v is =
      macros_moved table table s' m sizes (all_builds making gathered) v.lists (levels_moved table table s s' making gathered m sizes capacity none sound stands (λ k. omega (arith, same k)) keeps lasting size parameters (simple o h stays) (few o h stays)) (ap (λ (w : HeldLists). w.lists) is)

  same_sources : (o : Option Token) → IfSome o (λ t. PullsAtOnce (pending table s) (pending table s') t) → (o ≡ None → pending table s' ≡ pending table s) → (pending table s').sources ≡ (pending table s).sources
  same_sources None h stays = ap (λ (p : Pending). p.sources) (stays refl)
  same_sources (Some t) h stays = ap (λ (p : Pending). p.sources) h.after

  pub some_others : (o : Option Token) → IfSome o (λ t. PullsAtOnce (pending table s) (pending table s') t) → (o ≡ None → pending table s' ≡ pending table s) → (v : HeldLists) → before ≡ v → behind ≡ record v { puts = fronts table (pending table s').puts }
  some_others o h stays v is =
      ap (λ (bs : List Below). let w : HeldLists = record before { puts = fronts table (pending table s').puts; below = covers table bs } in w) (same_sources o h stays)
      ∙ ap (λ (w : HeldLists). let x : HeldLists = record w { puts = fronts table (pending table s').puts } in x) is

  pub none_stays : (o : Option Token) → (o ≡ None → pending table s' ≡ pending table s) → (v : HeldLists) → before ≡ v → o ≡ None → behind ≡ v
  none_stays o stays v is none = ap (λ (p : Pending). lists_of table p making gathered m sizes) (stays none) ∙ is

  module _ (t : Token) (h : PullsAtOnce (pending table s) (pending table s') t) where
    more : (c b : List ℕ) (files : List FileLeft) (next : Option (List ℕ)) → ahead_of c (seen table (pending table s) b files next) ≢ ahead.End
    more c b files next end =
        let k : ahead.Token ≡ ahead_of c (seen table (pending table s) b files next) = item_ahead table table c b (innermost s) (seen table (pending table s) b files next) refl refl refl (Some h.item) h.next in
        let e : ahead.Token ≡ ahead.End = k ∙ end in
        cc

    once_read : (c b : List ℕ) (files : List FileLeft) (next : Option (List ℕ)) → plain.pulled c (seen table (pending table s) b files next) ≡ plain.TokenFrom t (seen table (pending table s') b files next)
    once_read c b files next = (item_seen table table c b b (innermost s) (pending table s') sizes files next (more c b files next) refl h.item (Ok (given_as.Token t)) h.next (ap (λ (u : Token). Ok (given_as.Token u)) h.is) h.after refl).reads

    once_room : (c b : List ℕ) (files : List FileLeft) (next : Option (List ℕ)) → length files ≡ length (covers table (pending table s).sources) → refused sizes (step_demands (plain.pulled c (seen table (pending table s) b files next)) (seen table (pending table s) b files next)) ≡ None
    once_room c b files next tied = item_needs table table c b b (innermost s) (pending table s') sizes files next (more c b files next) refl tied s.size h.item sound.sized.levels h.next ∙ closed_room s.size h.item (pending table s) h.closed

    once_gives : GivesAtOnce before behind t
    once_gives = record {
      gives = λ b files next. once_read m.table.groups.now.categories b files next;
      room = λ b files next tied. once_room m.table.groups.now.categories b files next tied;
    }

  pub some_gives : (o : Option Token) → IfSome o (λ t. PullsAtOnce (pending table s) (pending table s') t) → (v : HeldLists) → before ≡ v → IfSome o (λ t. GivesAtOnce v behind t)
  some_gives None h v is = tt
  some_gives (Some t) h v is = subst (λ (w : HeldLists). GivesAtOnce w behind t) is (once_gives t h)

-- an item of a list in front comes next
pub hand_ahead : (table : List (Option Entry)) (s : InputStack) (o : Option Item) → next_item (pending table s).puts ≡ o → IsSome o → (c b : List ℕ) (files : List FileLeft) (next : Option (List ℕ)) → ahead_of c (seen table (pending table s) b files next) ≡ ahead.Token
hand_ahead table s None is some c b files next = cc
hand_ahead table s (Some x) is some c b files next = sym (item_ahead table table c b (innermost s) (seen table (pending table s) b files next) refl refl refl (Some x) is)

-- THE INPUT

-- lists in front change, and the lines stay in the buffer
pub once_tied : (h now : HeldLists) (b : List ℕ) (f : FilesLeft) (puts : List Put) → now ≡ record h { puts = puts } → IsTied h b f → IsTied now b f
once_tied h now b f puts is t = subst (λ (w : HeldLists). IsTied w b f) (sym is) (record { lines = t.lines; room = t.room; size = t.size; file_size = t.file_size; file_levels = t.file_levels })

module _ (h n : HeldLists) (b : List ℕ) (f : FilesLeft) (old : Stored) (is : stored_of h b f ≡ old) (tied : length f.files ≡ length h.below) where
  stored_room : (t : Token) → GivesAtOnce h n t → pull_refusal (stored_of h b f) ≡ None
  stored_room t g = g.room b f.files f.next tied

  pub some_room : (o : Option Token) → IfSome o (λ t. GivesAtOnce h n t) → IsSome o → pull_refusal old ≡ None
  some_room None g some = cc
  some_room (Some t) g some = subst (λ (v : Stored). pull_refusal v ≡ None) is (stored_room t g)

  stored_reads : (t : Token) → GivesAtOnce h n t → reads.Pulls (plain.pulled h.groups.now.categories (pending_of h b f.files f.next)) (answer.Token t) (stored_of h b f) (stored_of n b f)
  stored_reads t g =
      let e = g.gives b f.files f.next in
      reads_of (plain.pulled h.groups.now.categories (pending_of h b f.files f.next)) (answer.Token t) h.sizes (end_of_line h.groups.now) (pending_of h b f.files f.next) (pending_of n b f.files f.next) b (ap takes_file e) e (stored_room t g)

  pub some_reads : (o : Option Token) → IfSome o (λ t. GivesAtOnce h n t) → IfSome o (λ t. reads.Pulls (plain.pulled old.groups.now.categories old.pending) (answer.Token t) old (stored_of n b f))
  some_reads None g = tt
  some_reads (Some t) g = subst (λ (v : Stored). reads.Pulls (plain.pulled v.groups.now.categories v.pending) (answer.Token t) v (stored_of n b f)) is (stored_reads t g)
