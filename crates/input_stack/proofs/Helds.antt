-- What is held are the lists of the Puts.
use Rattle.std.proofs.Common.{◌≡◌, ℕ, ◌+◌, List, [], ◌∷◌, Option, refl, ap, ◌∙◌, append_assoc, arith}
use Rattle.std.proofs.lemmas.List.Sums.{sum_by-cons, sum_by-append}
use Rattle.token_lists.specs.Table.{Entry}
use Rattle.token_lists.specs.Accounts.{holds, Moves, Keeps, Covers}
use Rattle.input_stack.specs.WholeLevel.{WholeLevel}
use Rattle.input_stack.specs.WholeLevel as level
use Rattle.input_stack.specs.declared.stack.InputStack.{InputStack}
use Rattle.input_stack.specs.Rest.{number}
use Rattle.input_stack.specs.Puts.{Put, lists_of}
use Rattle.input_stack.specs.Pending.{Pending, times, held_lists, lists_in, lists_below}
use Rattle.input_stack.specs.CallViews.{put_of_call}
use Rattle.input_stack.proofs.CallKept.{call_lists}
use Rattle.input_stack.specs.View.{pending, pending_in, in_front, innermost, held, held_in}
use Rattle.input_stack.specs.Stacks.{IsStack}
use Rattle.input_stack.proofs.Kept.{held_cons, leave, pending_stays, read_stays}

put_lists : (p : Put) (q : Pending) (h : ℕ) → times h (held_lists (in_front p q)) ≡ times h (lists_of p) + times h (held_lists q)
put_lists p q h = ap (times h) (append_assoc (lists_of p) (lists_in q.puts) (lists_below q.sources)) ∙ sum_by-append (λ (n : ℕ). holds n h) (lists_of p) (held_lists q)

pub held_puts : (table : List (Option Entry)) (ls : List WholeLevel) (h : ℕ) → held_in ls h ≡ times h (held_lists (pending_in table ls))
held_puts table [] h = refl
held_puts table (level.List r ∷ ls) h =
    let q = pending_in table ls in
    omega (arith, held_cons (level.List r) ls h, held_puts table ls h, sum_by-cons (λ (n : ℕ). holds n h) (number r) (held_lists q))
held_puts table (level.Call c ∷ ls) h =
    let q = pending_in table ls in
    omega (arith, held_cons (level.Call c) ls h, held_puts table ls h, call_lists table c h, put_lists (put_of_call table c) q h)
held_puts table (level.Source s ∷ ls) h =
    omega (arith, held_cons (level.Source s) ls h, held_puts table ls h)

pub others : (s : InputStack) (old new : List (Option Entry)) (before after : ℕ → ℕ) → IsStack old s → Covers old (λ h. before h + held s h) → Moves old new before after → Keeps old new before → IsStack new s × (pending new s ≡ pending old s)
others s old new before after stands covers moves keeps =
    let k = leave old new before after (held_in (innermost s)) covers moves keeps in (
      record {
        read = read_stays old new (innermost s) k (λ h. omega (arith, covers h, moves h)) stands.read;
        fits = stands.fits;
      },
      pending_stays old new (innermost s) k,
    )
