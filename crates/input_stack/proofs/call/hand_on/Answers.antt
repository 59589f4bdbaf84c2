use Rattle.std.proofs.Common.{◌≡◌, true≢false, ◌∙◌, sym, ap, ap₂, refl, subst, List, ℕ, Option, map, None, Some}
use Rattle.tex_defs.specs.declared.Token.{Token}
use Rattle.tex_defs.specs.declared.Token.TheVariants.{Char, Named, Marked, Place, Number, EndPlaces}
use Rattle.token_lists.specs.Ids.{id_of}
use Rattle.token_lists.specs.Table.{Entry, tokens_at}
use Rattle.token_lists.specs.Accounts.{holds}
use Rattle.input_stack.specs.Puts.{Item, Later, first}
use Rattle.input_stack.specs.Calls.{Argument, token_items}
use Rattle.input_stack.specs.CallViews.{HandsOn, IsCountable, cells_in, is_gap}
use Rattle.input_stack.proofs.CallItems.{cell_counts, item_is, item_past, first_met, empty_met}
use Rattle.input_stack.proofs.CallPulled.{itself}
use Rattle.input_stack.proofs.call.hand_on.Goals as goal

no_number : (table : List (Option Entry)) (args : List (Option Argument)) (t : Token) → ((n : ℕ) → t ≡ Number n → ⊥) → HandsOn table table (token_items args t) t None
no_number table args (Char cat code) not = itself table (Char cat code)
no_number table args (Named name) not = itself table (Named name)
no_number table args (Marked name) not = itself table (Marked name)
no_number table args (Place c) not = itself table (Place c)
no_number table args (Number n) not = absurd (not n refl)
no_number table args EndPlaces not = itself table EndPlaces

pub first_token-requires : goal.first_token-requires
first_token-requires c = c.requires.held (id_of c.in-Some.list) (cell_counts c.args.args.now c.saturating_sub-place.result c.in-Some.list c.if-place-args.true c.in-Some.is)

pub opened-requires-clause-held : goal.opened-requires-clause-held
opened-requires-clause-held c = c.requires.held (id_of c.in-Some.list) (cell_counts c.args.args.now c.saturating_sub-place.result c.in-Some.list c.if-place-args.true c.in-Some.is)

pub opened-requires-clause-countable : goal.opened-requires-clause-countable
opened-requires-clause-countable c =
    let t = c.args.lists.now in
    let n = id_of c.in-Some.list in
    let e = item_is t c.args.args.now c.args.token c.in-Number.n c.saturating_sub-place.result (Some c.in-Some.list) c.if-place-args.true c.saturating_sub-place.ensures c.in-Number.is c.in-Some.is in
    let f = first_met n (tokens_at t n) c.in-Some-first_token.first (sym c.in-Some-first_token.is ∙ c.first_token.ensures) in
    subst (λ (xs : List Item). IsCountable t (first xs)) (e ∙ f) c.requires.countable

pub returns-in-Some-first_token : goal.returns-in-Some-first_token
returns-in-Some-first_token c =
    let t = c.args.lists.now in
    let n = id_of c.in-Some.list in
    let e = item_is t c.args.args.now c.args.token c.in-Number.n c.saturating_sub-place.result (Some c.in-Some.list) c.if-place-args.true c.saturating_sub-place.ensures c.in-Number.is c.in-Some.is in
    let f = first_met n (tokens_at t n) c.in-Some-first_token.first (sym c.in-Some-first_token.is ∙ c.first_token.ensures) in
    subst (λ (xs : List Item). HandsOn t c.opened.new.lists xs c.in-Some-first_token.first (Some c.opened.result)) (sym (e ∙ f)) (record {
      token = refl;
      left = ap₂ (λ (k : ℕ) (ts : List Token). map (Later k) ts) c.opened.ensures.same c.opened.ensures.left;
      reading = ap (λ (k : ℕ). Some k) c.opened.ensures.same;
      levels = refl;
      at_next = c.opened.ensures.at_next;
      holds = λ h. ap (λ (k : ℕ). holds k h) c.opened.ensures.same;
      shares = c.opened.ensures.shares;
    })

pub returns-in_default-first_token : goal.returns-in_default-first_token
returns-in_default-first_token c =
    let t = c.args.lists.now in
    let n = id_of c.in-Some.list in
    let e = item_is t c.args.args.now c.args.token c.in-Number.n c.saturating_sub-place.result (Some c.in-Some.list) c.if-place-args.true c.saturating_sub-place.ensures c.in-Number.is c.in-Some.is in
    let f = empty_met n (tokens_at t n) (sym c.in_default-first_token.is ∙ c.first_token.ensures) in
    let g = ap (λ (xs : List Item). is_gap (first xs)) (sym (e ∙ f)) ∙ c.requires.some in
    absurd (true≢false g)

pub returns-in_default-args : goal.returns-in_default-args
returns-in_default-args c =
    let t = c.args.lists.now in
    let e = item_is t c.args.args.now c.args.token c.in-Number.n c.saturating_sub-place.result None c.if-place-args.true c.saturating_sub-place.ensures c.in-Number.is c.in_default-args.is in
    let g = ap (λ (xs : List Item). is_gap (first xs)) (sym e) ∙ c.requires.some in
    absurd (true≢false g)

pub returns-else-place-args : goal.returns-else-place-args
returns-else-place-args c =
    let t = c.args.lists.now in
    let e = item_past t c.args.args.now c.args.token c.in-Number.n c.saturating_sub-place.result c.if-place-args.false c.saturating_sub-place.ensures c.in-Number.is in
    subst (λ (xs : List Item). HandsOn t t xs (Number c.in-Number.n) None) (sym e) (itself t (Number c.in-Number.n))

pub returns-in_default : goal.returns-in_default
returns-in_default c = no_number c.args.lists.now (cells_in c.args.lists.now c.args.args.now) c.args.token c.in_default.not-Number
