-- Who holds the lists in front: those that have them for themselves, the macros whose bodies they are, and open arguments.
use Rattle.std.proofs.Common.{◌≡◌, ℕ, ◌+◌, ◌≤◌, List, [], ◌∷◌, ◌++◌, Option, None, Some, cond, refl, sym, ap, ◌∙◌, arith}
use Rattle.std.specs.Prelude.{◌==◌, Bool, true, false}
use Rattle.tex_defs.specs.declared.Token.{Token}
use Rattle.plain_tokens.specs.Meanings.{is_listed}
use Rattle.plain_tokens.specs.Tables.{is_put, is_whole}
use Rattle.token_lists.specs.Table.{Entry, tokens_at}
use Rattle.token_lists.specs.Accounts.{holds}
use Rattle.equivalents.specs.Holding.{lists_held}
use Rattle.eqtb_save.specs.Table.{Table}
use Rattle.eqtb_save.specs.Holding as eqtb
use Rattle.input_stack.specs.Puts.{Put, Item, numbers, lists_of, without_ended, unless_ended, pulled, pulled_top, without_gaps, put_in_front, put_top}
use Rattle.input_stack.specs.Pending.{Pending, times, lists_in, end_token_lists, put}
use Rattle.input_stack.specs.View.{pending, held, innermost}
use Rattle.input_stack.specs.declared.stack.InputStack.{InputStack}
use Rattle.input_stack.proofs.Helds.{held_puts}
use Rattle.token_lists.specs.declared.Build.{Build}
use Rattle.input_state.specs.Macros.{is_shared}
use Rattle.input_state.specs.HeldViews.{Named, front, fronts, whole_of, own_of, owns, body_of, bodies, cells_of, opens, puts_below, puts_in, IsApart}
use Rattle.input_state.proofs.Counting.{some, bit, or_some, times_cons, times_append}
use Rattle.input_state.proofs.Sources.{held_in_all}

-- PARTS

numbers_cons : (h : ℕ) (o : Option ℕ) (cells : List (Option ℕ)) → times h (numbers (o ∷ cells)) ≡ times h (numbers (o ∷ [])) + times h (numbers cells)
numbers_cons h None cells = omega arith
numbers_cons h (Some n) cells = omega (arith, times_cons h n (numbers cells), times_cons h n [])

own_or_body : (h : ℕ) (b : Bool) (n : ℕ) (ns : List ℕ) → times h (own_of b n ns) + times h (body_of b n) ≡ holds n h + times h ns
own_or_body h true n ns = omega (arith, times_cons h n [])
own_or_body h false n ns = omega (arith, times_cons h n ns)

parts_of : (p : Put) (h : ℕ) → times h (lists_of p) ≡ times h (own_of p.body p.list (numbers p.arguments)) + (times h (body_of p.body p.list) + times h (numbers (p.reading ∷ [])))
parts_of p h = omega (arith, times_cons h p.list (numbers (p.reading ∷ p.arguments)), numbers_cons h p.reading p.arguments, own_or_body h p.body p.list (numbers p.arguments))

parts_in : (ps : List Put) (h : ℕ) → times h (lists_in ps) ≡ times h (owns ps) + (times h (bodies ps) + times h (opens ps))
parts_in [] h = refl
parts_in (p ∷ ps) h =
    omega (arith, parts_in ps h, parts_of p h, times_append h (lists_of p) (lists_in ps), times_append h (own_of p.body p.list (numbers p.arguments)) (owns ps), times_append h (body_of p.body p.list) (bodies ps), times_append h (numbers (p.reading ∷ [])) (opens ps))

pub held_parts : (table : List (Option Entry)) (stack : InputStack) (h : ℕ) → held stack h ≡ times h (owns (puts_in (pending table stack))) + (times h (bodies (puts_in (pending table stack))) + times h (opens (puts_in (pending table stack))))
held_parts table stack h = omega (arith, held_puts table (innermost stack) h, held_in_all h (pending table stack), parts_in (puts_in (pending table stack)) h)

-- SOME LISTS BEFORE OTHERS

pub owns_append : (h : ℕ) (ps qs : List Put) → times h (owns (ps ++ qs)) ≡ times h (owns ps) + times h (owns qs)
owns_append h [] qs = omega arith
owns_append h (p ∷ ps) qs =
    let here = own_of p.body p.list (numbers p.arguments) in
    omega (arith, owns_append h ps qs, times_append h here (owns (ps ++ qs)), times_append h here (owns ps))

pub bodies_append : (h : ℕ) (ps qs : List Put) → times h (bodies (ps ++ qs)) ≡ times h (bodies ps) + times h (bodies qs)
bodies_append h [] qs = omega arith
bodies_append h (p ∷ ps) qs = omega (arith, bodies_append h ps qs, times_append h (body_of p.body p.list) (bodies (ps ++ qs)), times_append h (body_of p.body p.list) (bodies ps))

pub cells_append : (h : ℕ) (ps qs : List Put) → times h (cells_of (ps ++ qs)) ≡ times h (cells_of ps) + times h (cells_of qs)
cells_append h [] qs = omega arith
cells_append h (p ∷ ps) qs = omega (arith, cells_append h ps qs, times_append h (numbers p.arguments) (cells_of (ps ++ qs)), times_append h (numbers p.arguments) (cells_of ps))

-- FEWER LISTS IN FRONT

pub record Fewer (ps qs : List Put) : Type 0 where
  pub owns : (h : ℕ) → times h (owns ps) ≤ times h (owns qs)
  pub bodies : (h : ℕ) → times h (bodies ps) ≤ times h (bodies qs)
  pub cells : (h : ℕ) → times h (cells_of ps) ≤ times h (cells_of qs)

pub apart_fewer : (ps qs : List Put) (bs : List Build) (m : Named) → Fewer ps qs → IsApart qs bs m → IsApart ps bs m
apart_fewer ps qs bs m f a = record {
  sole = λ h. omega (arith, f.owns h, a.sole h);
  apart = λ h more. omega (arith, f.bodies h, a.apart h (omega (arith, more, f.owns h)));
}

pub fewer_none : (qs : List Put) → Fewer [] qs
fewer_none qs = record { owns = λ h. omega arith; bodies = λ h. omega arith; cells = λ h. omega arith }

-- the first list goes, or stays with another reading and other items
drops_first : (p : Put) (ps qs : List Put) → Fewer ps qs → Fewer ps (p ∷ qs)
drops_first p ps qs f = record {
  owns = λ h. omega (arith, f.owns h, times_append h (own_of p.body p.list (numbers p.arguments)) (owns qs));
  bodies = λ h. omega (arith, f.bodies h, times_append h (body_of p.body p.list) (bodies qs));
  cells = λ h. omega (arith, f.cells h, times_append h (numbers p.arguments) (cells_of qs));
}

same_first : (p : Put) (qs : List Put) (r : Option ℕ) (xs : List Item) → Fewer (record { list = p.list; body = p.body; arguments = p.arguments; reading = r; items = xs } ∷ qs) (p ∷ qs)
same_first p qs r xs = record { owns = λ h. omega arith; bodies = λ h. omega arith; cells = λ h. omega arith }

settled_fewer : (p : Put) (xs : List Item) (ps qs : List Put) → Fewer ps qs → Fewer (unless_ended p xs ps qs) (p ∷ qs)
settled_fewer p [] ps qs f = drops_first p ps qs f
settled_fewer p (x ∷ xs) ps qs f = same_first p qs _ (x ∷ xs)

pub fewer_settled : (ps : List Put) → Fewer (without_ended ps) ps
fewer_settled [] = fewer_none []
fewer_settled (p ∷ ps) = settled_fewer p p.items (without_ended ps) ps (fewer_settled ps)

pulled_fewer : (p : Put) (xs : List Item) (ps qs : List Put) → Fewer ps qs → Fewer (pulled_top p xs ps qs) (p ∷ qs)
pulled_fewer p [] ps qs f = drops_first p ps qs f
pulled_fewer p (x ∷ xs) ps qs f = same_first p qs _ xs

pub fewer_pulled : (ps : List Put) → Fewer (pulled ps) ps
fewer_pulled [] = fewer_none []
fewer_pulled (p ∷ ps) = pulled_fewer p (without_gaps p.items) (pulled ps) ps (fewer_pulled ps)

put_fewer : (p : Put) (xs : List Item) (ps : List Put) → Fewer (put_top p xs ps) (p ∷ ps)
put_fewer p [] ps = drops_first p ps ps (record { owns = λ h. omega arith; bodies = λ h. omega arith; cells = λ h. omega arith })
put_fewer p (x ∷ xs) ps =
    let f = fewer_settled ps in
    record {
      owns = λ h. omega (arith, f.owns h, times_append h (own_of p.body p.list (numbers p.arguments)) (owns ps), times_append h (own_of p.body p.list (numbers p.arguments)) (owns (without_ended ps)));
      bodies = λ h. omega (arith, f.bodies h, times_append h (body_of p.body p.list) (bodies ps), times_append h (body_of p.body p.list) (bodies (without_ended ps)));
      cells = λ h. omega (arith, f.cells h, times_append h (numbers p.arguments) (cells_of ps), times_append h (numbers p.arguments) (cells_of (without_ended ps)));
    }

pub fewer_put : (p : Put) (ps : List Put) → Fewer (put_in_front p ps) (p ∷ ps)
fewer_put p ps = put_fewer p p.items ps

pub fewer_behind : (ps qs rs : List Put) → Fewer ps qs → Fewer (ps ++ rs) (qs ++ rs)
fewer_behind ps qs rs f = record {
  owns = λ h. omega (arith, f.owns h, owns_append h ps rs, owns_append h qs rs);
  bodies = λ h. omega (arith, f.bodies h, bodies_append h ps rs, bodies_append h qs rs);
  cells = λ h. omega (arith, f.cells h, cells_append h ps rs, cells_append h qs rs);
}

-- in front of all lines
pub fewer_settle : (p : Pending) → Fewer (puts_in (end_token_lists p)) (puts_in p)
fewer_settle p = fewer_behind (without_ended p.puts) p.puts (puts_below p.sources) (fewer_settled p.puts)

pub fewer_put_in : (x : Put) (p : Pending) → Fewer (puts_in (put x p)) (x ∷ puts_in p)
fewer_put_in x p = fewer_behind (put_in_front x p.puts) (x ∷ p.puts) (puts_below p.sources) (fewer_put x p.puts)

-- MACROS

pub listed_once : (h : ℕ) (ns : List ℕ) → cond (is_listed ns h) 1 0 ≡ some (times h ns)
listed_once h [] = refl
listed_once h (n ∷ ns) = or_some (n == h) (is_listed ns h) (holds n h) (times h ns) (bit (n == h)) (listed_once h ns) ∙ ap some (sym (times_cons h n ns))

whole_once : (h : ℕ) (b : Bool) (n : ℕ) (ts : List Token) → cond (is_whole h (whole_of b n ts)) 1 0 ≡ times h (body_of b n)
whole_once h true n ts = omega (arith, times_cons h n [])
whole_once h false n ts = refl

pub put_once : (table : List (Option Entry)) (h : ℕ) (ps : List Put) → cond (is_put h (fronts table ps)) 1 0 ≡ some (times h (bodies ps))
put_once table h [] = refl
put_once table h (p ∷ ps) =
    or_some (is_whole h (front table p).list) (is_put h (fronts table ps)) (times h (body_of p.body p.list)) (times h (bodies ps)) (bit (is_whole h (front table p).list) ∙ ap some (whole_once h p.body p.list (tokens_at table p.list))) (put_once table h ps)
    ∙ ap some (sym (times_append h (body_of p.body p.list) (bodies ps)))

pub macro_once : (table : List (Option Entry)) (m : Table) (ps : List Put) (h : ℕ) → cond (is_shared h (lists_held m.groups) (fronts table ps)) 1 0 ≡ some (eqtb.held m h + times h (bodies ps))
macro_once table m ps h = or_some (is_listed (lists_held m.groups) h) (is_put h (fronts table ps)) (eqtb.held m h) (times h (bodies ps)) (listed_once h (lists_held m.groups)) (put_once table h ps)
