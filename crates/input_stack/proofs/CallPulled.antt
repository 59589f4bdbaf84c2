-- What a call hands on.
use Rattle.std.proofs.Common.{◌≡◌, ℕ, ◌-◌, List, [], ◌∷◌, ◌++◌, map, length, drop, Option, None, Some, Bool, true, false, refl, sym, ap, ap₂, ◌∙◌, subst, arith}
use Rattle.std.specs.Prelude.{slice_get, is_some, MatchOption}
use Rattle.std.proofs.lemmas.Option.{none-some}
use Rattle.tex_defs.specs.declared.Token.{Token}
use Rattle.tex_defs.specs.declared.Token.TheVariants.{Char, Named, Marked, Place, Number, EndPlaces}
use Rattle.token_lists.specs.declared.ListRef.{ListRef}
use Rattle.token_lists.specs.Table.{Entry}
use Rattle.token_lists.specs.Accounts.{holds, none, Moves, Keeps}
use Rattle.input_stack.specs.declared.reader.Reader.{Reader}
use Rattle.input_stack.specs.Whole.{WholeCall}
use Rattle.input_stack.specs.Puts.{Item, Text, First, Later, Gap, first, without_gaps, count_of}
use Rattle.input_stack.specs.Calls.{Argument, argument_list, spread, placed_argument, token_items, substituted}
use Rattle.input_stack.specs.Rest.{number, rest, IsAt}
use Rattle.input_stack.specs.CallViews.{cells_in, open_items, open_number, open_tokens, open_holds, items_of, is_gap, IsCall, IsSettled, IsCountable, Hands, HandsOn, CallGives, CallPulls, Closes}
use Rattle.input_stack.proofs.CallKept.{cells_same, at_same}

-- AN ARGUMENT'S LEVEL GOES

open_one : (o : Option Reader) → is_some o ≡ true → count_of (open_number o) ≡ 1
open_one None is = cc
open_one (Some r) is = refl

is_none_by : (o : Option Reader) → is_some o ≡ false → o ≡ None
is_none_by None is = refl
is_none_by (Some r) is = cc

no_token : (ts : List Token) (p : Option Token) → p ≡ slice_get ts 0 → is_some p ≡ false → ts ≡ []
no_token [] p at is = refl
no_token (t ∷ ts) None at is = absurd (none-some t at)
no_token (t ∷ ts) (Some u) at is = cc

pub closes : (old new : List (Option Entry)) (c : WholeCall) (taken dest : Option Reader) (p : Option Token) (went : Bool) → taken ≡ c.argument → dest ≡ None → p ≡ slice_get (open_tokens old c.argument) 0 → is_some p ≡ false → went ≡ is_some taken → Moves old new (open_holds taken) none → Keeps old new (open_holds taken) → (taken ≡ None → new ≡ old) → Closes old new c (record { body = c.body; argument = dest; args = c.args }) went
closes old new c taken dest p true is at next some went moves keeps free = (
  ap (λ (o : Option Reader). record { body = c.body; argument = o; args = c.args }) at,
  no_token (open_tokens old c.argument) p next some,
  open_one c.argument (ap (λ (o : Option Reader). is_some o) (sym is) ∙ sym went),
  subst (λ (o : Option Reader). Moves old new (open_holds o) none) is moves,
  subst (λ (o : Option Reader). Keeps old new (open_holds o)) is keeps,
)
closes old new c taken dest p false is at next some went moves keeps free =
    let n : taken ≡ None = is_none_by taken (sym went) in (
      free n,
      ap (λ (o : Option Reader). record { body = c.body; argument = o; args = c.args }) (at ∙ sym n ∙ is),
      λ nothing. sym is ∙ n,
    )

-- THE OPEN ARGUMENT'S NEXT TOKEN

spread_closed : (l : ℕ) (ts : List Token) (ys : List Item) (n : ℕ) → IsSettled (Some n) (spread l ts ++ ys) → ⊥
spread_closed l [] ys n is = none-some n (sym is)
spread_closed l (t ∷ ts) ys n is = none-some n (sym is)

placed_closed : (k : ℕ) (o : Option (Option Argument)) (ys : List Item) (n : ℕ) → IsSettled (Some n) (placed_argument k o ++ ys) → ⊥
placed_closed k None ys n is = none-some n (sym is)
placed_closed k (Some None) ys n is = none-some n (sym is)
placed_closed k (Some (Some a)) ys n is = spread_closed a.list a.tokens ys n is

token_closed : (args : List (Option Argument)) (t : Token) (ys : List Item) (n : ℕ) → IsSettled (Some n) (token_items args t ++ ys) → ⊥
token_closed args (Char cat code) ys n is = none-some n (sym is)
token_closed args (Named name) ys n is = none-some n (sym is)
token_closed args (Marked name) ys n is = none-some n (sym is)
token_closed args (Place c) ys n is = none-some n (sym is)
token_closed args (Number k) ys n is = placed_closed k (slice_get args (k - 1)) ys n is
token_closed args EndPlaces ys n is = none-some n (sym is)

-- a body's items aren't those of an open argument
pub body_closed : (args : List (Option Argument)) (ts : List Token) (n : ℕ) → IsSettled (Some n) (substituted args ts) → ⊥
body_closed args [] n is = is
body_closed args (t ∷ ts) n is = token_closed args t (substituted args ts) n is

same_head : (t u : Token) (ts us : List Token) → t ∷ ts ≡ u ∷ us → (t ≡ u) × (ts ≡ us)
same_head t u ts us is = (cc, cc)

module _ (table : List (Option Entry)) (b : Reader) (args : List (Option ListRef)) (r r' : Reader) (same : number r' ≡ number r) (at : IsAt table r') where
  abbrev whole : WholeCall
  whole = record { body = b; argument = Some r; args = args }

  abbrev later : WholeCall
  later = record { body = b; argument = Some r'; args = args }

  abbrev behind : List Item
  behind = substituted (cells_in table args) (rest table b)

  later_gives : (t : Token) (vs : List Token) → rest table r' ≡ vs → IsCall table whole → CallGives table table whole later (Later (number r) t) (map (Later (number r)) vs ++ behind)
  later_gives t vs left is = record {
    after = ap₂ (λ (k : ℕ) (us : List Token). record { list = number b; body = true; arguments = map argument_list (cells_in table args); reading = Some k; items = map (Later k) us ++ substituted (cells_in table args) (rest table b) }) same left;
    stands = record { body = is.body; argument = at; held = is.held };
    shares = record { size = refl; tokens = λ h. refl; places = λ h. refl; holders = λ h. omega arith; held = λ h some. absurd (omega (arith, some)) };
    held = λ h. omega (arith, ap (λ (k : ℕ). holds k h) same);
    levels = refl;
  }

  list_pulls : (ts us : List Token) (result : Option Token) → rest table r' ≡ us → MatchOption result (ts ≡ []) (λ t. ts ≡ t ∷ us) → IsSettled (Some (number r)) (map (Later (number r)) ts ++ behind) → IsCall table whole → CallPulls table table whole later (without_gaps (map (Later (number r)) ts ++ behind)) result
  list_pulls [] us result left is settled call = absurd (body_closed (cells_in table args) (rest table b) (number r) settled)
  list_pulls (t ∷ ts) us None left is settled call = absurd (omega (arith, ap length is))
  list_pulls (t ∷ ts) us (Some u) left is settled call =
      let e = same_head t u ts us is in
      (ap (λ (x : Token). Some x) (sym e.0), later_gives t ts (left ∙ sym e.1) call)

  pub open_pulls : (result : Option Token) → MatchOption result (rest table r ≡ []) (λ t. rest table r ≡ t ∷ rest table r') → IsSettled (Some (number r)) (items_of table (record { body = b; argument = Some r; args = args })) → IsCall table (record { body = b; argument = Some r; args = args }) → CallPulls table table (record { body = b; argument = Some r; args = args }) (record { body = b; argument = Some r'; args = args }) (without_gaps (items_of table (record { body = b; argument = Some r; args = args }))) result
  open_pulls result is settled call = list_pulls (rest table r) (rest table r') result refl is settled call

-- whichever argument is open
pub argument_pulls : (table : List (Option Entry)) (c : WholeCall) (r r' : Reader) (result : Option Token) → c.argument ≡ Some r → number r' ≡ number r → IsAt table r' → MatchOption result (rest table r ≡ []) (λ t. rest table r ≡ t ∷ rest table r') → IsSettled (open_number c.argument) (items_of table c) → IsCall table c → CallPulls table table c (record { body = c.body; argument = Some r'; args = c.args }) (without_gaps (items_of table c)) result
argument_pulls table c r r' result is same at token settled call =
    let e : c ≡ record { body = c.body; argument = Some r; args = c.args } = ap (λ (o : Option Reader). record { body = c.body; argument = o; args = c.args }) is in
    let s = subst (λ (d : WholeCall). IsSettled (open_number d.argument) (items_of table d)) e settled in
    let k = subst (λ (d : WholeCall). IsCall table d) e call in
    subst (λ (d : WholeCall). CallPulls table table d (record { body = c.body; argument = Some r'; args = c.args }) (without_gaps (items_of table d)) result) (sym e) (open_pulls table c.body c.args r r' same at result token s k)

-- THE BODY'S NEXT ITEM

first_spread : (l : ℕ) (ts : List Token) (ys : List Item) → first (spread l ts ++ ys) ≡ first (spread l ts)
first_spread l [] ys = refl
first_spread l (t ∷ ts) ys = refl

first_placed : (n : ℕ) (o : Option (Option Argument)) (ys : List Item) → first (placed_argument n o ++ ys) ≡ first (placed_argument n o)
first_placed n None ys = refl
first_placed n (Some None) ys = refl
first_placed n (Some (Some a)) ys = first_spread a.list a.tokens ys

token_first : (args : List (Option Argument)) (t : Token) (ys : List Item) → first (token_items args t ++ ys) ≡ first (token_items args t)
token_first args (Char cat code) ys = refl
token_first args (Named name) ys = refl
token_first args (Marked name) ys = refl
token_first args (Place c) ys = refl
token_first args (Number n) ys = first_placed n (slice_get args (n - 1)) ys
token_first args EndPlaces ys = refl

front_no_gap : (xs : List Item) → is_gap (first (without_gaps xs)) ≡ false
front_no_gap [] = refl
front_no_gap (Text t ∷ xs) = refl
front_no_gap (First n t ∷ xs) = refl
front_no_gap (Later n t ∷ xs) = refl
front_no_gap (Gap ∷ xs) = front_no_gap xs

-- the items of a call without an open argument
pub closed_items : (table : List (Option Entry)) (c : WholeCall) → c.argument ≡ None → items_of table c ≡ substituted (cells_in table c.args) (rest table c.body)
closed_items table c is = ap (λ (o : Option Reader). open_items table o ++ substituted (cells_in table c.args) (rest table c.body)) is

-- a token that stands for itself is handed on
pub itself : (table : List (Option Entry)) (t : Token) → Hands table table (Text t) [] t None
itself table t = record {
  token = refl;
  left = refl;
  reading = refl;
  levels = refl;
  at_next = tt;
  holds = λ h. refl;
  shares = record { size = refl; tokens = λ h. refl; places = λ h. refl; holders = λ h. omega arith; held = λ h some. absurd (omega (arith, some)) };
}

-- gone behind the gaps and one token on
module _ (table : List (Option Entry)) (c : WholeCall) (us vs : List Token) (t : Token) (is : c.argument ≡ None) (behind : substituted (cells_in table c.args) us ≡ without_gaps (substituted (cells_in table c.args) (rest table c.body))) (at : us ≡ t ∷ vs) where
  pub token_behind : without_gaps (items_of table c) ≡ token_items (cells_in table c.args) t ++ substituted (cells_in table c.args) vs
  token_behind = ap without_gaps (closed_items table c is) ∙ sym behind ∙ ap (substituted (cells_in table c.args)) at

  first_behind : first (without_gaps (items_of table c)) ≡ first (token_items (cells_in table c.args) t)
  first_behind = ap first token_behind ∙ token_first (cells_in table c.args) t (substituted (cells_in table c.args) vs)

  pub no_gap_behind : is_gap (first (token_items (cells_in table c.args) t)) ≡ false
  no_gap_behind = ap is_gap (sym first_behind) ∙ front_no_gap (items_of table c)

  pub countable_behind : IsCountable table (first (without_gaps (items_of table c))) → IsCountable table (first (token_items (cells_in table c.args) t))
  countable_behind k = subst (IsCountable table) first_behind k

pub nothing_behind : (table : List (Option Entry)) (c : WholeCall) (us : List Token) → c.argument ≡ None → substituted (cells_in table c.args) us ≡ without_gaps (substituted (cells_in table c.args) (rest table c.body)) → us ≡ [] → without_gaps (items_of table c) ≡ []
nothing_behind table c us is behind at = ap without_gaps (closed_items table c is) ∙ sym behind ∙ ap (substituted (cells_in table c.args)) at

module _ (old new : List (Option Entry)) (c : WholeCall) (m : Reader) (argument : Option Reader) (closed : c.argument ≡ None) (call : IsCall old c) (same : number m ≡ number c.body) (at : IsAt old m) where
  body_gives : (x : Item) (xs : List Item) (handed : Token) → Hands old new x xs handed argument → CallGives old new c (record { body = m; argument = argument; args = c.args }) x (xs ++ substituted (cells_in old c.args) (rest old m))
  body_gives x xs handed hands =
      let s = hands.shares in
      let a = cells_same old new c.args (λ h some. s.tokens h) in
      let left = ap₂ (λ (ys : List Item) (args : List (Option Argument)). ys ++ substituted args (rest new m)) hands.left a
      ∙ ap (λ (ts : List Token). xs ++ substituted (cells_in old c.args) (drop m.read ts)) (s.tokens (number m)) in
      record {
        after =
            ap₂ (λ (n : ℕ) (ys : List Item). record { list = n; body = true; arguments = map argument_list (cells_in new c.args); reading = open_number argument; items = ys }) same left
            ∙ ap₂ (λ (o : Option ℕ) (args : List (Option Argument)). record { list = number c.body; body = true; arguments = map argument_list args; reading = o; items = xs ++ substituted (cells_in old c.args) (rest old m) }) hands.reading a;
        stands = record {
          body = at_same old new m (s.tokens (number m)) (s.places (number m)) (omega (arith, s.holders (number m), at.held)) at;
          argument = hands.at_next;
          held = λ h some. omega (arith, s.holders h, call.held h some);
        };
        shares = s;
        held = λ h. omega (arith, hands.holds h, ap (λ (n : ℕ). holds n h) same, ap (λ (o : Option Reader). open_holds o h) closed);
        levels = omega (arith, hands.levels, ap (λ (o : Option Reader). count_of (open_number o)) closed);
      }

  hands_pulls : (ys : List Item) (handed : Token) → HandsOn old new ys handed argument → CallPulls old new c (record { body = m; argument = argument; args = c.args }) (ys ++ substituted (cells_in old c.args) (rest old m)) (Some handed)
  hands_pulls [] handed hands = absurd hands
  hands_pulls (x ∷ xs) handed hands = (ap (λ (t : Token). Some t) hands.token, body_gives x xs handed hands)

  pub body_pulls : (ys zs : List Item) (handed : Token) → HandsOn old new ys handed argument → zs ≡ ys ++ substituted (cells_in old c.args) (rest old m) → CallPulls old new c (record { body = m; argument = argument; args = c.args }) zs (Some handed)
  body_pulls ys zs handed hands is = subst (λ (ws : List Item). CallPulls old new c (record { body = m; argument = argument; args = c.args }) ws (Some handed)) (sym is) (hands_pulls ys handed hands)
