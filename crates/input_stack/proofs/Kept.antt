-- What the levels read stays where their lists are held.
use Rattle.std.proofs.Common.{◌≡◌, ℕ, ◌+◌, ◌<◌, ◌≤◌, List, [], ◌∷◌, length, drop, Option, refl, sym, ap, ap₂, subst, arith}
use Rattle.std.specs.Prelude.{All, slice_get, IsSome, ◌↔◌}
use Rattle.std.proofs.lemmas.List.Elements.{All-head, All-tail, All-cons, All-nil}
use Rattle.std.proofs.lemmas.List.Sums.{sum_by-cons}
use Rattle.tex_defs.specs.declared.Token.{Token}
use Rattle.token_lists.specs.Table.{Entry, tokens_at, places_at, holders_at, IsHeld}
use Rattle.token_lists.specs.Accounts.{holds, none, Moves, Keeps}
use Rattle.input_stack.specs.declared.reader.Reader.{Reader}
use Rattle.input_stack.specs.WholeLevel.{WholeLevel}
use Rattle.input_stack.specs.WholeLevel as level
use Rattle.input_stack.specs.Rest.{number, rest, IsAt}
use Rattle.input_stack.specs.Puts.{Put}
use Rattle.input_stack.specs.CallViews.{IsSettled}
use Rattle.input_stack.specs.View.{pending_in, in_front, over, level_holds, held_in}
use Rattle.input_stack.proofs.CallKept as CallKept
use Rattle.input_stack.proofs.CallKept.{call_same, call_stands}
use Rattle.input_stack.specs.Stacks.{IsLevel, IsUnfinished, AreUnfinished, AreUnfinishedBelow, AreRead}

-- the lists that are held so often are as they were, and still held
pub record Stay (old new : List (Option Entry)) (f : ℕ → ℕ) : Type 0 where
  pub tokens : (h : ℕ) → 0 < f h → tokens_at new h ≡ tokens_at old h
  pub places : (h : ℕ) → 0 < f h → places_at new h ≡ places_at old h
  pub held : (h : ℕ) → 0 < f h → IsHeld new h

pub held_cons : (l : WholeLevel) (ls : List WholeLevel) (h : ℕ) → held_in (l ∷ ls) h ≡ level_holds l h + held_in ls h
held_cons l ls h = sum_by-cons (λ (x : WholeLevel). level_holds x h) l ls

pub holds_itself : (n : ℕ) → holds n n ≡ 1
holds_itself n = CallKept.holds_itself n

stay_tail : (old new : List (Option Entry)) (l : WholeLevel) (ls : List WholeLevel) → Stay old new (held_in (l ∷ ls)) → Stay old new (held_in ls)
stay_tail old new l ls s = record {
  tokens = λ h some. s.tokens h (omega (arith, some, held_cons l ls h));
  places = λ h some. s.places h (omega (arith, some, held_cons l ls h));
  held = λ h some. s.held h (omega (arith, some, held_cons l ls h));
}

stay_head : (old new : List (Option Entry)) (r : Reader) (ls : List WholeLevel) → Stay old new (held_in (level.List r ∷ ls)) → Stay old new (holds (number r))
stay_head old new r ls s = record {
  tokens = λ h some. s.tokens h (omega (arith, some, held_cons (level.List r) ls h));
  places = λ h some. s.places h (omega (arith, some, held_cons (level.List r) ls h));
  held = λ h some. s.held h (omega (arith, some, held_cons (level.List r) ls h));
}

rest_stays : (old new : List (Option Entry)) (r : Reader) → Stay old new (holds (number r)) → rest new r ≡ rest old r
rest_stays old new r s = ap (λ (ts : List Token). drop r.read ts) (s.tokens (number r) (omega (arith, holds_itself (number r))))

at_stays : (old new : List (Option Entry)) (r : Reader) → Stay old new (holds (number r)) → IsAt old r → IsAt new r
at_stays old new r s a =
    let one : 0 < holds (number r) (number r) = omega (arith, holds_itself (number r)) in
    record {
      held = s.held (number r) one;
      place = subst (λ (ps : List ℕ). r.at ≡ slice_get ps r.read) (sym (s.places (number r) one)) a.place;
      ends = subst (λ (ts : List Token). IsSome r.at ↔ (r.read < length ts)) (sym (s.tokens (number r) one)) a.ends;
    }

pub pending_stays : (old new : List (Option Entry)) (ls : List WholeLevel) → Stay old new (held_in ls) → pending_in new ls ≡ pending_in old ls
pending_stays old new [] s = refl
pending_stays old new (level.List r ∷ ls) s =
    let e = rest_stays old new r (stay_head old new r ls s) in
    let f = pending_stays old new ls (stay_tail old new (level.List r) ls s) in
    rw (e, f) refl
pending_stays old new (level.Call c ∷ ls) s =
    ap₂ in_front (call_same old new c (λ h some. s.tokens h (omega (arith, some, held_cons (level.Call c) ls h)))) (pending_stays old new ls (stay_tail old new (level.Call c) ls s))
pending_stays old new (level.Source x ∷ ls) s = ap (over x) (pending_stays old new ls (stay_tail old new (level.Source x) ls s))

pub levels_stay : (old new : List (Option Entry)) (ls : List WholeLevel) → Stay old new (held_in ls) → All (IsLevel old) ls → All (IsLevel new) ls
levels_stay old new [] s a = All-nil (IsLevel new)
levels_stay old new (level.List r ∷ ls) s a = All-cons (IsLevel new) (level.List r) ls (at_stays old new r (stay_head old new r ls s) (All-head (IsLevel old) (level.List r) ls a)) (levels_stay old new ls (stay_tail old new (level.List r) ls s) (All-tail (IsLevel old) (level.List r) ls a))
levels_stay old new (level.Call c ∷ ls) s a = All-cons (IsLevel new) (level.Call c) ls (call_stands old new (held_in (level.Call c ∷ ls)) s.tokens s.places s.held c (λ h. omega (arith, held_cons (level.Call c) ls h)) (All-head (IsLevel old) (level.Call c) ls a)) (levels_stay old new ls (stay_tail old new (level.Call c) ls s) (All-tail (IsLevel old) (level.Call c) ls a))
levels_stay old new (level.Source x ∷ ls) s a = All-cons (IsLevel new) (level.Source x) ls tt (levels_stay old new ls (stay_tail old new (level.Source x) ls s) (All-tail (IsLevel old) (level.Source x) ls a))

pub unfinished_stay : (old new : List (Option Entry)) (ls : List WholeLevel) → Stay old new (held_in ls) → AreUnfinished old ls → AreUnfinished new ls
unfinished_stay old new [] s a = All-nil (IsUnfinished new)
unfinished_stay old new (level.List r ∷ ls) s a =
    let e = rest_stays old new r (stay_head old new r ls s) in
    let some : 0 < length (rest old r) = All-head (IsUnfinished old) (level.List r) ls a in
    All-cons (IsUnfinished new) (level.List r) ls (subst (λ (ts : List Token). 0 < length ts) (sym e) some) (unfinished_stay old new ls (stay_tail old new (level.List r) ls s) (All-tail (IsUnfinished old) (level.List r) ls a))
unfinished_stay old new (level.Call c ∷ ls) s a =
    let e = call_same old new c (λ h some. s.tokens h (omega (arith, some, held_cons (level.Call c) ls h))) in
    All-cons (IsUnfinished new) (level.Call c) ls (subst (λ (p : Put). IsSettled p.reading p.items) (sym e) (All-head (IsUnfinished old) (level.Call c) ls a)) (unfinished_stay old new ls (stay_tail old new (level.Call c) ls s) (All-tail (IsUnfinished old) (level.Call c) ls a))
unfinished_stay old new (level.Source x ∷ ls) s a = All-cons (IsUnfinished new) (level.Source x) ls tt (unfinished_stay old new ls (stay_tail old new (level.Source x) ls s) (All-tail (IsUnfinished old) (level.Source x) ls a))

pub all_below : (table : List (Option Entry)) (ls : List WholeLevel) → AreUnfinished table ls → AreUnfinishedBelow table ls
all_below table [] a = tt
all_below table (l ∷ ls) a = All-tail (IsUnfinished table) l ls a

pub below_stay : (old new : List (Option Entry)) (ls : List WholeLevel) → Stay old new (held_in ls) → AreUnfinishedBelow old ls → AreUnfinishedBelow new ls
below_stay old new [] s a = tt
below_stay old new (l ∷ ls) s a = unfinished_stay old new ls (stay_tail old new l ls s) a

-- some holders go, and what others hold stays
pub leaves : (old new : List (Option Entry)) (gone f : ℕ → ℕ) → ((h : ℕ) → gone h + f h ≤ holders_at old h) → Moves old new gone none → Keeps old new gone → Stay old new f
leaves old new gone f covers moves keeps = record {
  tokens = λ h some. keeps.tokens h (omega (arith, some, covers h));
  places = λ h some. keeps.places h (omega (arith, some, covers h));
  held = λ h some. omega (arith, some, covers h, moves h);
}

-- other parts change what they hold
pub leave : (old new : List (Option Entry)) (before after f : ℕ → ℕ) → ((h : ℕ) → before h + f h ≤ holders_at old h) → Moves old new before after → Keeps old new before → Stay old new f
leave old new before after f covers moves keeps = record {
  tokens = λ h some. keeps.tokens h (omega (arith, some, covers h));
  places = λ h some. keeps.places h (omega (arith, some, covers h));
  held = λ h some. omega (arith, some, covers h, moves h);
}

-- the levels beneath one that lets go what it holds
pub beneath_read : (old new : List (Option Entry)) (l : WholeLevel) (ls : List WholeLevel) → AreRead old (l ∷ ls) → Moves old new (level_holds l) none → Keeps old new (level_holds l) → AreRead new ls × AreUnfinished new ls × (pending_in new ls ≡ pending_in old ls)
beneath_read old new l ls a moves keeps =
    let s = leaves old new (level_holds l) (held_in ls) (λ h. omega (arith, a.covers h, held_cons l ls h)) moves keeps in
    let u = unfinished_stay old new ls s a.below in (
      record {
        levels = levels_stay old new ls s (All-tail (IsLevel old) l ls a.levels);
        below = all_below new ls u;
        covers = λ h. omega (arith, a.covers h, held_cons l ls h, moves h);
      },
      u,
      pending_stays old new ls s,
    )

pub read_stays : (old new : List (Option Entry)) (ls : List WholeLevel) → Stay old new (held_in ls) → ((h : ℕ) → held_in ls h ≤ holders_at new h) → AreRead old ls → AreRead new ls
read_stays old new ls s covers a = record {
  levels = levels_stay old new ls s a.levels;
  below = below_stay old new ls s a.below;
  covers = covers;
}
