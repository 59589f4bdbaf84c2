-- A list in front.
use Rattle.std.proofs.Common.{◌≡◌, ℕ, ◌+◌, ◌<◌, ◌≤◌, List, [], ◌∷◌, length, map, Option, None, Some, Bool, true, false, not, refl, sym, ap, ap₂, ◌∙◌, subst, arith}
use Rattle.std.specs.Prelude.{IsSome, ◌↔◌, is_some, nat_lt, nat_le}
use Rattle.std.proofs.lemmas.Bool.Decides.{nat_tests}
use Rattle.std.proofs.lemmas.List.Elements.{All-cons}
use Rattle.std.proofs.lemmas.Option.{none-some}
use Rattle.tex_defs.specs.declared.Token.{Token}
use Rattle.tex_defs.specs.declared.Full.{Full}
use Rattle.token_lists.specs.Table.{Entry, tokens_at}
use Rattle.token_lists.specs.Accounts.{holds, none, Moves, Keeps, Covers}
use Rattle.input_stack.specs.Whole.{WholeCall}
use Rattle.input_stack.specs.Puts.{Item, Put, Text}
use Rattle.input_stack.specs.Calls.{substituted}
use Rattle.input_stack.specs.CallViews.{put_of_call}
use Rattle.input_stack.specs.declared.reader.Reader.{Reader}
use Rattle.input_stack.specs.WholeLevel.{WholeLevel}
use Rattle.input_stack.specs.declared.stack.InputStack.{InputStack}
use Rattle.input_stack.specs.Rest.{number, rest}
use Rattle.input_stack.specs.Pending.{Pending, end_token_lists, put, listed_put, shared_put, refusal, room, parameter_room, either, used_levels, used_parameters}
use Rattle.input_stack.specs.View.{pending_in, in_front, innermost, level_holds, held_in}
use Rattle.input_stack.specs.Stacks.{IsLevel, AreUnfinished, AreRead, Fits}
use Rattle.input_stack.proofs.Kept.{Stay, leaves, pending_stays, read_stays, held_cons, holds_itself}
use Rattle.input_stack.proofs.Wholes.{levels_count, arguments_count}
use Rattle.input_stack.proofs.CallItems.{without_arguments}
use Rattle.input_stack.proofs.ListsEnded.{levels_used, used_settle, arguments_used, parameters_settle}

pub no_tokens : (o : Option ℕ) (b : Bool) (ts : List Token) → is_some o ≡ not b → b ≡ true → IsSome o ↔ (0 < length ts) → ts ≡ []
no_tokens o b [] k is ends = refl
no_tokens None b (t ∷ ts) k is ends =
    let e = ends.1 (omega arith) in
    cc
no_tokens (Some p) true (t ∷ ts) k is ends = cc
no_tokens (Some p) false (t ∷ ts) k is ends = cc

pub some_tokens : (o : Option ℕ) (b : Bool) (ts : List Token) → is_some o ≡ not b → b ≡ false → IsSome o ↔ (0 < length ts) → 0 < length ts
some_tokens (Some p) b ts k is ends = ends.0 refl
some_tokens None true ts k is ends = cc
some_tokens None false ts k is ends = cc

-- a list without tokens goes
pub empty_stays : (old new : List (Option Entry)) (n : ℕ) (ls : List WholeLevel) → Covers old (λ h. holds n h + held_in ls h) → Moves old new (holds n) none → Keeps old new (holds n) → Stay old new (held_in ls)
empty_stays old new n ls covers moves keeps = leaves old new (holds n) (held_in ls) covers moves keeps

empty_put : (shared : Bool) (n : ℕ) (ts : List Token) (p : Pending) → ts ≡ [] → put (listed_put shared n ts) p ≡ p
empty_put shared n ts p is = rw is refl

pub empty_ok : (shared : Bool) (old new : List (Option Entry)) (n : ℕ) (ls : List WholeLevel) (ts : List Token) → Covers old (λ h. holds n h + held_in ls h) → Moves old new (holds n) none → Keeps old new (holds n) → ts ≡ [] → pending_in new ls ≡ put (listed_put shared n ts) (pending_in old ls)
empty_ok shared old new n ls ts covers moves keeps is = pending_stays old new ls (empty_stays old new n ls covers moves keeps) ∙ sym (empty_put shared n ts (pending_in old ls) is)

pub empty_read : (old new : List (Option Entry)) (n : ℕ) (ls : List WholeLevel) → Covers old (λ h. holds n h + held_in ls h) → Moves old new (holds n) none → Keeps old new (holds n) → AreRead old ls → AreRead new ls
empty_read old new n ls covers moves keeps a = read_stays old new ls (empty_stays old new n ls covers moves keeps) (λ h. omega (arith, covers h, moves h)) a

-- what is refused
pub refused : (n size : ℕ) (ts : List Token) (p : Pending) → 0 < length ts → n ≡ used_levels p → room size n ≡ refusal size (map Text ts) p
refused n size [] p some is = absurd (omega arith)
refused n size (t ∷ ts) p some is = rw is refl

pub used_is : (table : List (Option Entry)) (s : InputStack) (p : Pending) → Fits s → AreUnfinished table (innermost s) → pending_in table (innermost s) ≡ end_token_lists p → length s.levels.items + s.argument_levels ≡ used_levels p
used_is table s p f a is = omega (arith, levels_count s, f.opens, levels_used table (innermost s) a, ap used_levels is, used_settle p)

pub parameters_are : (table : List (Option Entry)) (s : InputStack) (p : Pending) → Fits s → AreUnfinished table (innermost s) → pending_in table (innermost s) ≡ end_token_lists p → length s.arguments.items ≡ used_parameters p
parameters_are table s p f u is = omega (arith, arguments_count s f, arguments_used table (innermost s) u, ap used_parameters is, parameters_settle p)

room_test : (size used : ℕ) (b : Bool) → nat_lt used size ≡ b → room size used ≡ None → used < size
room_test size used true k is = grind (arith, nat_tests)
room_test size used false k is =
    let e = rw k at is in
    absurd (none-some _ (sym e))

pub room_left : (size used : ℕ) → room size used ≡ None → used < size
room_left size used is = room_test size used (nat_lt used size) refl is

parameters_test : (size used count : ℕ) (b : Bool) → nat_le (used + count) size ≡ b → parameter_room size used count ≡ None → used + count ≤ size
parameters_test size used count true k is = grind (arith, nat_tests)
parameters_test size used count false k is =
    let e = rw k at is in
    absurd (none-some _ (sym e))

pub parameters_left : (size used count : ℕ) → parameter_room size used count ≡ None → used + count ≤ size
parameters_left size used count is = parameters_test size used count (nat_le (used + count) size) refl is

-- where neither of two refuses
pub neither : (a b : Option Full) → either a b ≡ None → (a ≡ None) × (b ≡ None)
neither None b is = (refl, is)
neither (Some full) b is = absurd (none-some full (sym is))

-- the tokens of a list that is put, once the finished lists have gone
pub put_tokens : (old mid : List (Option Entry)) (n : ℕ) (f : ℕ → ℕ) → Covers old (λ h. holds n h + f h) → Keeps old mid f → tokens_at mid n ≡ tokens_at old n
put_tokens old mid n f covers keeps = keeps.tokens n (omega (arith, covers n, holds_itself n))

put_is : (shared : Bool) (n : ℕ) (ts : List Token) (p : Pending) → 0 < length ts → in_front (listed_put shared n ts) (end_token_lists p) ≡ put (listed_put shared n ts) p
put_is shared n [] p some = absurd (omega arith)
put_is shared n (t ∷ ts) p some = refl

pub put_ok : (shared : Bool) (mid : List (Option Entry)) (l : WholeLevel) (n : ℕ) (us ts : List Token) (xs ls : List WholeLevel) (p : Pending) → xs ≡ l ∷ ls → pending_in mid (l ∷ ls) ≡ in_front (listed_put shared n us) (pending_in mid ls) → us ≡ ts → 0 < length ts → pending_in mid ls ≡ end_token_lists p → pending_in mid xs ≡ put (listed_put shared n ts) p
put_ok shared mid l n us ts xs ls p is at same some q =
    ap (pending_in mid) is ∙ at ∙ ap₂ (λ (vs : List Token) (r : Pending). in_front (listed_put shared n vs) r) same q ∙ put_is shared n ts p some

-- a call without arguments whose reader is at the front of its list
pub shared_is : (table : List (Option Entry)) (call : WholeCall) (r : Reader) (n : ℕ) (ts : List Token) → call ≡ record { body = r; argument = None; args = [] } → number r ≡ n → rest table r ≡ ts → put_of_call table call ≡ shared_put n ts
shared_is table call r n ts is a b =
    ap (put_of_call table) is
    ∙ ap₂ (λ (k : ℕ) (us : List Token). let x : Put = record { list = k; body = true; arguments = []; reading = None; items = substituted [] us } in x) a b
    ∙ ap (λ (xs : List Item). let x : Put = record { list = n; body = true; arguments = []; reading = None; items = xs } in x) (without_arguments ts)

-- a level on top of others that aren't finished
pub put_read : (old mid : List (Option Entry)) (l : WholeLevel) (xs ls : List WholeLevel) (f : ℕ → ℕ) → xs ≡ l ∷ ls → IsLevel mid l → AreRead mid ls → AreUnfinished mid ls → Covers old (λ h. level_holds l h + f h) → Moves old mid f (held_in ls) → AreRead mid xs
put_read old mid l xs ls f is at read unfinished covers moves =
    let k : AreRead mid (l ∷ ls) = record {
      levels = All-cons (IsLevel mid) l ls at read.levels;
      below = unfinished;
      covers = λ h. omega (arith, held_cons l ls h, covers h, moves h);
    } in
    subst (λ (ys : List WholeLevel). AreRead mid ys) (sym is) k

pub put_moves : (old mid : List (Option Entry)) (l : WholeLevel) (xs ls : List WholeLevel) (f : ℕ → ℕ) → xs ≡ l ∷ ls → Moves old mid f (held_in ls) → Moves old mid (λ h. level_holds l h + f h) (held_in xs)
put_moves old mid l xs ls f is moves h = omega (arith, held_cons l ls h, moves h, ap (λ (ys : List WholeLevel). held_in ys h) is)
