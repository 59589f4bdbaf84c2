-- What a step makes of the scanner.
use Rattle.std.proofs.Common.{◌≡◌, ℕ, ◌+◌, ◌<◌, ◌≤◌, Bool, true, false, cond, List, [], ◌∷◌, length, length-append, Option, None, Some, refl, sym, ap, ◌∙◌, arith}
use Rattle.std.specs.Prelude.{◌==◌}
use Rattle.std.proofs.lemmas.Bool.{eqb-true}
use Rattle.tex_defs.specs.declared.Token.{Token}
use Rattle.token_lists.specs.declared.Build.{Build}
use Rattle.token_lists.specs.Table.{Entry, entry_at, tokens_of, places_of, holders_at}
use Rattle.token_lists.specs.Accounts.{Moves, Keeps, none}
use Rattle.token_lists.specs.Ids.{build_id}
use Rattle.plain_state.specs.Definitions.{with_cell}
use Rattle.list_builder.specs.declared.ask.Ask.{Ask}
use Rattle.list_builder.specs.declared.ask.Ask.TheVariants as ask
use Rattle.list_builder.specs.declared.scan.ListScan.{ListScan}
use Rattle.list_builder.specs.declared.stage.Next.{Next}
use Rattle.list_builder.specs.declared.stage.Next.TheVariants.{On}
use Rattle.list_builder.specs.declared.stage.Stage.{Stage}
use Rattle.list_builder.specs.declared.stage.Step.{Step}
use Rattle.list_builder.specs.Stages.{depth_of, depth_after, cell_count, growth, grown, goes_by}
use Rattle.list_builder.specs.Stages as stages
use Rattle.list_builder.specs.Scans.{work_by, work_in, build_holds, IsBuildingIn, OwnsBuild, IsOpen, IsListed, IsSpent, IsSound, IsGrownByPart, answer_of, handed, Goes, IsCutShort}

owned : (table : List (Option Entry)) (b : Option Build) → IsBuildingIn table b → OwnsBuild table b
owned table None h = tt
owned table (Some b) h = h

abbrev one_if : Bool → ℕ
one_if k = cond k 1 0

-- the list in work has one holder: each other list is as it was
apart_kept : (old new : List (Option Entry)) (b : Build) (h : ℕ) (k : Bool) → (build_id b == h) ≡ k → holders_at old (build_id b) ≡ 1 → (one_if k ≡ 0 → entry_at new h ≡ entry_at old h) → one_if k < holders_at old h → entry_at new h ≡ entry_at old h
apart_kept old new b h true e sole others less = absurd (omega (arith, less, sole, ap (holders_at old) (eqb-true (build_id b) h e)))
apart_kept old new b h false e sole others less = others refl

entry_kept : (old new : List (Option Entry)) (b : Option Build) → IsBuildingIn old b → ((h : ℕ) → build_holds b h ≡ 0 → entry_at new h ≡ entry_at old h) → (h : ℕ) → build_holds b h < holders_at old h → entry_at new h ≡ entry_at old h
entry_kept old new None building others h less = others h refl
entry_kept old new (Some b) building others h less = apart_kept old new b h (build_id b == h) refl building.sole (others h) less

kept : (old new : List (Option Entry)) (b : Option Build) → IsBuildingIn old b → ((h : ℕ) → build_holds b h ≡ 0 → entry_at new h ≡ entry_at old h) → Keeps old new (build_holds b)
kept old new b building others = record {
  tokens = λ h less. ap tokens_of (entry_kept old new b building others h less);
  places = λ h less. ap places_of (entry_kept old new b building others h less);
}

open_listed : (table : List (Option Entry)) (a : Ask) → IsOpen a → IsListed table a
open_listed table (ask.More want) h = tt
open_listed table (ask.Tells report give_back) h = tt
open_listed table (ask.Done cell) h = absurd h

open_spent : (s : ListScan) (a : Ask) → IsOpen a → IsSpent a s
open_spent s (ask.More want) h = tt
open_spent s (ask.Tells report give_back) h = tt
open_spent s (ask.Done cell) h = absurd h

open_hands : (a : Ask) (h : ℕ) → IsOpen a → handed a h ≡ 0
open_hands (ask.More want) h o = refl
open_hands (ask.Tells report give_back) h o = refl
open_hands (ask.Done cell) h o = absurd o

cell_length : (list : List Token) (cell : Option Token) → length (with_cell list cell) ≡ length list + cell_count cell
cell_length list None = omega arith
cell_length list (Some t) = length-append list (t ∷ [])

grown_length : (step : Step) (list : List Token) → length (grown step list) ≡ length list + growth step
grown_length step list = omega (arith, cell_length (with_cell list step.first) step.second, cell_length list step.first)

module _ (old new : List (Option Entry)) (s : ListScan) (step : Step) (w : Option Build) (sound : IsSound old s) (building : IsBuildingIn new w) (same : (h : ℕ) → build_holds w h ≡ build_holds s.build h) (others : (h : ℕ) → build_holds s.build h ≡ 0 → entry_at new h ≡ entry_at old h) (account : Moves old new none none) where
  pub cut_short : IsGrownByPart (work_in old s) (work_by new w) (grown step (work_in old s)) → IsCutShort old new s (record { manner = s.manner; stage = s.stage; build = w }) (grown step (work_in old s))
  cut_short part = record {
    part = part;
    stands = refl;
    owns = owned new w building;
    moves = λ h. omega (arith, account h, same h);
    kept = kept old new s.build sound.building others;
  }

  pub goes_on : (g : Stage) (a : Ask) → step.next ≡ On g → depth_after step.next ≤ depth_of s.stage + growth step → work_by new w ≡ grown step (work_in old s) → ((table : List (Option Entry)) (list : List Token) → answer_of table a list ≡ stages.resume s.manner g list []) → IsOpen a → Goes old new s (record { manner = s.manner; stage = g; build = w }) step a
  goes_on g a is shallow list answer opened =
      let m = s.manner in
      let all = grown step (work_in old s) in
      record {
        answers = answer new (work_by new w) ∙ ap (λ (ts : List Token). stages.resume m g ts []) list ∙ sym (ap (λ (n : Next). goes_by n m all []) is);
        sound = λ o. record { building = building; shallow = omega (arith, shallow, ap depth_after is, sound.shallow, grown_length step (work_in old s), ap (λ (ts : List Token). length ts) list) };
        same = λ o fed. ap (λ (n : Next). goes_by n m all fed) is ∙ sym (ap (λ (ts : List Token). stages.resume m g ts fed) list);
        listed = open_listed new a opened;
        spent = open_spent (record { manner = s.manner; stage = g; build = w }) a opened;
        owns = owned new w building;
        moves = λ h. omega (arith, account h, same h, open_hands a h opened);
        kept = kept old new s.build sound.building others;
      }
