-- The lists in front of all lines, once a line is taken or a file goes.
use Rattle.std.proofs.Common.{◌≡◌, ℕ, ℤ, List, [], ◌∷◌, ◌++◌, Bool, true, false, refl, sym, ap, ◌∙◌, subst}
use Rattle.std.specs.Prelude.{◌||◌}
use Rattle.plain_tokens.specs.Puts.{Put}
use Rattle.plain_tokens.specs.Pending.{Pending, Pulled, Source, LineTaken, line_taken, beneath, on_next_line, outer_puts, all_puts}
use Rattle.plain_tokens.specs.Tables.{is_put, is_whole}
use Rattle.equivalents.specs.Holding.{lists_held}
use Rattle.input_state.specs.Macros.{KeepsLists}
use Rattle.input_state.specs.Reads.{TakesLine}
use Rattle.input_state.specs.Stored.{Stored, KeepsShared}

next_of : Pending → Pulled → Pending
next_of p (LineTaken line next) = next
next_of p q = p

-- those beneath the file
beneath_puts : (ss : List Source) → all_puts (beneath ss) ≡ outer_puts ss
beneath_puts [] = refl
beneath_puts (s ∷ ss) = refl

or_true : (b c : Bool) → c ≡ true → (b || c) ≡ true
or_true true c same = refl
or_true false c same = same

put_behind : (id : ℕ) (ps qs : List Put) → is_put id qs ≡ true → is_put id (ps ++ qs) ≡ true
put_behind id [] qs is = is
put_behind id (p ∷ ps) qs is = or_true (is_whole id p.list) (is_put id (ps ++ qs)) (put_behind id ps qs is)

-- they were in front before
pub still_put : (id : ℕ) (p new : Pending) → all_puts new ≡ outer_puts p.outer → is_put id (all_puts new) ≡ true → is_put id (all_puts p) ≡ true
still_put id p new same is = put_behind id p.puts (outer_puts p.outer) (sym (ap (is_put id) same) ∙ is)

pub over_puts : (p d new : Pending) → d.outer ≡ p.outer → new ≡ beneath d.outer → all_puts new ≡ outer_puts p.outer
over_puts p d new outer is = ap all_puts is ∙ beneath_puts d.outer ∙ ap outer_puts outer

pub taken_puts : (end : ℤ) (p new : Pending) → TakesLine (line_taken p p.rest) end p new → all_puts new ≡ outer_puts p.outer
unfolding next_of
taken_puts end p new t =
    let is : on_next_line p.rest p ≡ t.next = ap (next_of p) t.is in
    ap all_puts t.ended ∙ sym (ap (λ (q : Pending). q.puts ++ outer_puts q.outer) is)

-- no list of a macro's is another
pub over_keeps : (old mid new : Stored) → KeepsShared old mid → mid.pending.puts ≡ [] → new ≡ record mid { pending = beneath mid.pending.outer } → KeepsShared old new
over_keeps old mid new keeps none is =
    let same : all_puts (beneath mid.pending.outer) ≡ all_puts mid.pending = beneath_puts mid.pending.outer ∙ sym (ap (λ (ps : List Put). ps ++ outer_puts mid.pending.outer) none) in
    subst (λ (v : Stored). KeepsShared old v) (sym is) (subst (λ (ps : List Put). KeepsLists (lists_held mid.groups) ps old.lists mid.lists) (sym same) keeps)
