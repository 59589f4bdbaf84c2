-- What is handed on at once is what is pulled.
use Rattle.std.proofs.Common.{◌≡◌, ℕ, List, [], ◌∷◌, ◌++◌, map, length, reverse, Option, None, Some, Bool, false, cond, refl, sym, ap, ◌∙◌, subst, arith}
use Rattle.std.specs.Prelude.{IfSome, IsSome, IsTrue, MatchOption, Ok, is_some, slice_get}
use Rattle.std.proofs.lemmas.Option.{none-some}
use Rattle.tex_defs.specs.declared.Token.{Token}
use Rattle.tex_defs.specs.declared.Token.TheVariants.{Char, Named, Marked, Place, Number, EndPlaces}
use Rattle.token_lists.specs.Table.{Entry}
use Rattle.input_stack.specs.declared.reader.Reader.{Reader}
use Rattle.input_stack.specs.Whole.{WholeCall}
use Rattle.input_stack.specs.WholeLevel.{WholeLevel}
use Rattle.input_stack.specs.WholeLevel as level
use Rattle.input_stack.specs.declared.level.Pulled.{Pulled}
use Rattle.input_stack.specs.declared.level.Pulled.TheVariants as pulled_as
use Rattle.input_stack.specs.declared.stack.InputStack.{InputStack}
use Rattle.input_stack.specs.Puts.{Item, Text, First, Later, Gap, first, without_gaps, is_empty, has_item, next_item, pulled}
use Rattle.input_stack.specs.Calls.{Argument, IsText, token_items, substituted}
use Rattle.input_stack.specs.Rest.{number, rest, IsAt}
use Rattle.input_stack.specs.CallViews.{cells_in, open_items, open_number, items_of, met, met_of, opens, is_opening, opened, IsCall, IsSettled, CallPulls}
use Rattle.input_stack.specs.Levels.{HandsAtOnce, LevelPulls, level_item, is_level_passed}
use Rattle.input_stack.specs.Pending.{Pending, with_puts}
use Rattle.input_stack.specs.Pulls.{Pulls, PullsTop, PullsItem, HandsOn, refused_at, token_in}
use Rattle.input_stack.specs.View.{innermost, pending, pending_in, held, held_in, level_open}
use Rattle.input_stack.specs.Stacks.{IsSized, IsStack, AreRead}
use Rattle.input_stack.specs.AtOnce.{PullsAtOnce}
use Rattle.input_stack.specs.Wholes.{count_in}
use Rattle.input_stack.proofs.CallPulled.{argument_pulls, body_pulls, closed_items, itself}
use Rattle.input_stack.proofs.LevelItems.{call_pulls}
use Rattle.input_stack.proofs.Gaps.{top_next}
use Rattle.input_stack.proofs.Tops.{fits_changed, true_is}
use Rattle.input_stack.proofs.Rests.{get_drop}
use Rattle.input_stack.proofs.Given.{top_gives, top_read, top_held, level_opens}

-- AN OPEN ARGUMENT

later_settled : (n : ℕ) (ts us : List Token) (t : Token) (ys : List Item) → ts ≡ t ∷ us → IsSettled (Some n) (map (Later n) ts ++ ys)
later_settled n [] us t ys is = absurd (omega (arith, ap length is))
later_settled n (x ∷ ts) us t ys is = refl

later_closed : (n : ℕ) (ts us : List Token) (t : Token) (ys : List Item) → ts ≡ t ∷ us → is_opening (met (first (without_gaps (map (Later n) ts ++ ys)))) ≡ false
later_closed n [] us t ys is = absurd (omega (arith, ap length is))
later_closed n (x ∷ ts) us t ys is = refl

module _ (table : List (Option Entry)) (c : WholeCall) (r : Reader) (us : List Token) (t : Token) (is : c.argument ≡ Some r) (token : rest table r ≡ t ∷ us) where
  abbrev behind : List Item
  behind = substituted (cells_in table c.args) (rest table c.body)

  pub argument_settled : IsSettled (open_number c.argument) (items_of table c)
  argument_settled = subst (λ (o : Option Reader). IsSettled (open_number o) (open_items table o ++ behind)) (sym is) (later_settled (number r) (rest table r) us t behind token)

  pub argument_closed : is_opening (met (first (without_gaps (items_of table c)))) ≡ false
  argument_closed = ap (λ (o : Option Reader). is_opening (met (first (without_gaps (open_items table o ++ behind))))) is ∙ later_closed (number r) (rest table r) us t behind token

same_token : (t u : Token) → pulled_as.Token t ≡ pulled_as.Token u → t ≡ u
same_token t u is = cc

-- A BODY

text_items : (args : List (Option Argument)) (t : Token) → IsText t → token_items args t ≡ Text t ∷ []
text_items args (Char cat code) text = refl
text_items args (Named name) text = refl
text_items args (Marked name) text = refl
text_items args (Place c) text = refl
text_items args (Number n) text = absurd (text n refl)
text_items args EndPlaces text = refl

module _ (table : List (Option Entry)) (c : WholeCall) (us : List Token) (t : Token) (is : c.argument ≡ None) (token : rest table c.body ≡ t ∷ us) (text : IsText t) where
  pub text_front : without_gaps (items_of table c) ≡ Text t ∷ substituted (cells_in table c.args) us
  text_front =
      ap without_gaps (closed_items table c is)
      ∙ ap (λ (ts : List Token). without_gaps (substituted (cells_in table c.args) ts)) token
      ∙ ap (λ (xs : List Item). without_gaps (xs ++ substituted (cells_in table c.args) us)) (text_items (cells_in table c.args) t text)

  pub text_closed : is_opening (met (first (without_gaps (items_of table c)))) ≡ false
  text_closed = ap (λ (xs : List Item). is_opening (met (first xs))) text_front

-- WHETHER IT IS AT HAND

open_some : (n : ℕ) (ts : List Token) (ys : List Item) (b : Bool) → b ≡ is_some (slice_get ts 0) → IsTrue b → IsSome (first (without_gaps (map (Later n) ts ++ ys)))
open_some n [] ys b is some =
    let e = sym (true_is b some) ∙ is in
    cc
open_some n (t ∷ ts) ys b is some = refl

pub argument_at_hand : (table : List (Option Entry)) (c : WholeCall) (r : Reader) (b : Bool) → c.argument ≡ Some r → b ≡ is_some (slice_get (rest table r) 0) → IsTrue b → IsSome (first (without_gaps (items_of table c)))
argument_at_hand table c r b is at some =
    let ys = substituted (cells_in table c.args) (rest table c.body) in
    subst (λ (o : Option Reader). IsSome (first (without_gaps (open_items table o ++ ys)))) (sym is) (open_some (number r) (rest table r) ys b at some)

pub body_at_hand : (table : List (Option Entry)) (c : WholeCall) (p : Option Token) (b : Bool) → c.argument ≡ None → p ≡ slice_get (rest table c.body) 0 → (IsTrue b → MatchOption p ⊥ IsText) → IsTrue b → IsSome (first (without_gaps (items_of table c)))
body_at_hand table c None b is at text some = absurd (text some)
body_at_hand table c (Some t) b is at text some = subst (λ (xs : List Item). IsSome (first xs)) (sym (text_front table c _ t is (get_drop (rest table c.body) 0 t (sym at)) (text some))) refl

texts_left : (ts : List Token) → is_some (slice_get ts 0) ≡ is_some (first (map Text ts))
texts_left [] = refl
texts_left (t ∷ ts) = refl

pub list_at_hand : (table : List (Option Entry)) (l : WholeLevel) (r : Reader) (b : Bool) → l ≡ level.List r → b ≡ is_some (slice_get (rest table r) 0) → b ≡ is_some (level_item table l)
list_at_hand table l r b is at = at ∙ texts_left (rest table r) ∙ ap (λ (k : WholeLevel). is_some (level_item table k)) (sym is)

no_gaps : (ts : List Token) → is_some (first (map Text ts)) ≡ is_some (first (without_gaps (map Text ts)))
no_gaps [] = refl
no_gaps (t ∷ ts) = refl

level_at_hand : (table : List (Option Entry)) (l : WholeLevel) (ls : List WholeLevel) → is_some (level_item table l) ≡ has_item (pending_in table (l ∷ ls)).puts
level_at_hand table (level.List r) ls = no_gaps (rest table r)
level_at_hand table (level.Call c) ls = refl
level_at_hand table (level.Source s) ls = refl

pub top_at_hand : (table : List (Option Entry)) (xs ls : List WholeLevel) (l : WholeLevel) → xs ≡ l ∷ ls → is_some (level_item table l) ≡ has_item (pending_in table xs).puts
top_at_hand table xs ls l is = level_at_hand table l ls ∙ ap (λ (ys : List WholeLevel). has_item (pending_in table ys).puts) (sym is)

pub none_at_hand : (table : List (Option Entry)) (xs : List WholeLevel) → length xs ≡ 0 → false ≡ has_item (pending_in table xs).puts
none_at_hand table [] none = refl
none_at_hand table (x ∷ xs) none = absurd (omega (arith, none))

item_some : (l : WholeLevel) (table : List (Option Entry)) → IsSome (level_item table l) → is_level_passed table l ≡ false
item_some (level.List r) table some = some_front (rest table r) some
  where
    some_front : (ts : List Token) → IsSome (first (map Text ts)) → is_empty (map Text ts) ≡ false
    some_front [] is = cc
    some_front (t ∷ ts) is = refl
item_some (level.Call c) table some = some_items (without_gaps (items_of table c)) some
  where
    some_items : (xs : List Item) → IsSome (first xs) → is_empty xs ≡ false
    some_items [] is = cc
    some_items (x ∷ xs) is = refl
item_some (level.Source s) table some = refl

pub stack_at_hand : (table : List (Option Entry)) (xs ls : List WholeLevel) (l : WholeLevel) → xs ≡ l ∷ ls → IsSome (level_item table l) → IsSome (next_item (pending_in table xs).puts)
stack_at_hand table xs ls l is some = subst (λ (o : Option Item). IsSome o) (sym (top_next table xs ls l is (item_some l table some))) some

-- IT IS PULLED

pub body_at_once : (table : List (Option Entry)) (c : WholeCall) (m : Reader) (t : Token) → c.argument ≡ None → IsCall table c → number m ≡ number c.body → IsAt table m → rest table c.body ≡ t ∷ rest table m → IsText t → CallPulls table table c (record { body = m; argument = None; args = c.args }) (without_gaps (items_of table c)) (Some t)
body_at_once table c m t is call same at token text = body_pulls table table c m None is call same at (Text t ∷ []) (without_gaps (items_of table c)) t (itself table t) (text_front table c (rest table m) t is token text)

-- WHETHER IT CAME

pub some_argument : (table : List (Option Entry)) (c : WholeCall) (r r' : Reader) (o : Option Token) → c.argument ≡ Some r → number r' ≡ number r → IsAt table r' → MatchOption o (rest table r ≡ []) (λ t. rest table r ≡ t ∷ rest table r') → IsCall table c → IfSome o (λ t. CallPulls table table c (record { body = c.body; argument = Some r'; args = c.args }) (without_gaps (items_of table c)) (Some t))
some_argument table c r r' None is same at token call = tt
some_argument table c r r' (Some t) is same at token call = argument_pulls table c r r' (Some t) is same at token (argument_settled table c r (rest table r') t is token) call

-- A LEVEL

pub list_at_once : (table : List (Option Entry)) (r r' : Reader) (t : Token) → number r' ≡ number r → IsAt table r' → rest table r ≡ t ∷ rest table r' → HandsAtOnce table (level.List r) (level.List r') t
list_at_once table r r' t same at token = record {
  item = Text t;
  next = ap (λ (ts : List Token). first (map Text ts)) token;
  closed = refl;
  more = ap (λ (ts : List Token). is_empty (map Text ts)) token;
  pulls = λ c b. record { reader = r'; token = t; is = refl; same = same; at_next = at; gives = token; answer = refl; bytes = refl; lists = refl };
}

call_hands : (table : List (Option Entry)) (c c' : WholeCall) (t : Token) (xs : List Item) → without_gaps (items_of table c) ≡ xs → CallPulls table table c c' (without_gaps (items_of table c)) (Some t) → CallPulls table table c c' xs (Some t) → is_opening (met (first xs)) ≡ false → HandsAtOnce table (level.Call c) (level.Call c') t
call_hands table c c' t [] is whole h closed = absurd (none-some t (sym h))
call_hands table c c' t (x ∷ xs) is whole h closed = record {
  item = x;
  next = ap first is;
  closed = closed;
  more = ap is_empty is;
  pulls = λ cs bs. call_pulls table table cs bs (level.Call c) c c' (Some t) t refl whole refl;
}

pub call_at_once : (table : List (Option Entry)) (c c' : WholeCall) (t : Token) → CallPulls table table c c' (without_gaps (items_of table c)) (Some t) → is_opening (met (first (without_gaps (items_of table c)))) ≡ false → HandsAtOnce table (level.Call c) (level.Call c') t
call_at_once table c c' t h closed = call_hands table c c' t (without_gaps (items_of table c)) refl h h closed

pub some_list : (table : List (Option Entry)) (l : WholeLevel) (r r' : Reader) (o : Option Token) → l ≡ level.List r → number r' ≡ number r → IsAt table r' → MatchOption o (rest table r ≡ []) (λ t. rest table r ≡ t ∷ rest table r') → IfSome o (λ t. HandsAtOnce table l (level.List r') t)
some_list table l r r' None is same at token = tt
some_list table l r r' (Some t) is same at token = subst (λ (k : WholeLevel). HandsAtOnce table k (level.List r') t) (sym is) (list_at_once table r r' t same at token)

pub some_call : (table : List (Option Entry)) (l : WholeLevel) (c c' : WholeCall) (o : Option Token) → l ≡ level.Call c → IfSome o (λ t. CallPulls table table c c' (without_gaps (items_of table c)) (Some t)) → IfSome o (λ t. is_opening (met (first (without_gaps (items_of table c)))) ≡ false) → IfSome o (λ t. HandsAtOnce table l (level.Call c') t)
some_call table l c c' None is h closed = tt
some_call table l c c' (Some t) is h closed = subst (λ (k : WholeLevel). HandsAtOnce table k (level.Call c') t) (sym is) (call_at_once table c c' t h closed)

-- THE STACK

opens_none : (x : Item) (h : ℕ) → opens (met_of x) ≡ false → opened (Some x) h ≡ 0
opens_none (Text t) h is = refl
opens_none (First n t) h is = cc
opens_none (Later n t) h is = refl
opens_none Gap h is = refl

-- the level on top has changed, and what counts as ever
module _ (table : List (Option Entry)) (s s' : InputStack) (l l' : WholeLevel) (ls : List WholeLevel) (is : innermost s ≡ l ∷ ls) (at : innermost s' ≡ l' ∷ ls) (len : length s'.levels.items ≡ length s.levels.items) (lv : s'.argument_levels ≡ s.argument_levels) (counts : length s'.arguments.items ≡ count_in (reverse s'.levels.items)) (same_count : length s'.arguments.items ≡ length s.arguments.items) (sized : IsSized s s') (stands : IsStack table s) where
  module _ (t : Token) (h : HandsAtOnce table l l' t) where
    abbrev r : Pulled
    r = pulled_as.Token t

    gives : LevelPulls table table [] [] [] l l' r
    gives = h.pulls [] []

    next : next_item (pending table s).puts ≡ Some h.item
    next = top_next table (innermost s) ls l is h.more ∙ h.next

    top : PullsTop [] [] [] (pending table s) (pending table s') (Some h.item) r
    top = subst (λ (o : Option Item). PullsTop [] [] [] (pending table s) (pending table s') o r) next (top_gives table table [] [] [] l l' (innermost s) (innermost s') ls r is at refl gives)

    once_gives : PullsAtOnce (pending table s) (pending table s') t
    once_gives = record { item = h.item; next = next; is = same_token t (token_in h.item) top.0; closed = h.closed; after = top.1 }

    once_open : level_open l' ≡ level_open l
    once_open = omega (arith, level_opens table table [] [] [] l l' r gives, ap {B = ℕ} (λ (o : Option Item). cond (is_opening (met o)) 1 0) h.next, ap {B = ℕ} (λ (x : Bool). cond x 1 0) h.closed)

    once_stands : IsStack table s'
    once_stands = record {
      read = top_read table table [] [] [] l l' (innermost s) (innermost s') ls r is at gives stands.read;
      fits = fits_changed s s' l l' ls stands.fits is at (omega (arith, stands.fits.within, len, lv)) (omega (arith, lv, once_open)) counts same_count sized;
    }

    once_held : (i : ℕ) → held s' i ≡ held s i
    once_held i = omega (arith, top_held table table [] [] [] l l' (innermost s) (innermost s') ls r is at gives stands.read i, ap (λ (o : Option Item). opened o i) h.next, opens_none h.item i h.closed)

  same_levels : l' ≡ l → innermost s' ≡ innermost s
  same_levels same = at ∙ ap (λ (x : WholeLevel). x ∷ ls) same ∙ sym is

  same_stands : l' ≡ l → IsStack table s'
  same_stands same = record {
    read = subst (AreRead table) (sym (same_levels same)) stands.read;
    fits = fits_changed s s' l l' ls stands.fits is at (omega (arith, stands.fits.within, len, lv)) (omega (arith, lv, ap level_open same)) counts same_count sized;
  }

  -- whether a token came or nothing has changed
  pub some_gives : (o : Option Token) → IfSome o (λ t. HandsAtOnce table l l' t) → IfSome o (λ t. PullsAtOnce (pending table s) (pending table s') t)
  some_gives None h = tt
  some_gives (Some t) h = once_gives t h

  pub none_stays : (o : Option Token) → (o ≡ None → l' ≡ l) → o ≡ None → pending table s' ≡ pending table s
  none_stays o stays none = ap (pending_in table) (same_levels (stays none))

  pub some_stands : (o : Option Token) → IfSome o (λ t. HandsAtOnce table l l' t) → (o ≡ None → l' ≡ l) → IsStack table s'
  some_stands None h stays = same_stands (stays refl)
  some_stands (Some t) h stays = once_stands t h

  pub some_held : (o : Option Token) → IfSome o (λ t. HandsAtOnce table l l' t) → (o ≡ None → l' ≡ l) → (i : ℕ) → held s' i ≡ held s i
  some_held None h stays i = ap (λ (xs : List WholeLevel). held_in xs i) (same_levels (stays refl))
  some_held (Some t) h stays i = once_held t h i

-- it is what is pulled
hands_at_once : (size : ℕ) (b : List ℕ) (p q : Pending) (x : Item) (t : Token) → opens (met_of x) ≡ false → t ≡ token_in x → q ≡ with_puts (pulled p.puts) p → HandsOn b b p q x (refused_at size x p) (Ok (pulled_as.Token t))
hands_at_once size b p q (Text u) t closed is after = (ap (λ (v : Token). Ok (pulled_as.Token v)) is, after, refl)
hands_at_once size b p q (First n u) t closed is after = cc
hands_at_once size b p q (Later n u) t closed is after = (ap (λ (v : Token). Ok (pulled_as.Token v)) is, after, refl)
hands_at_once size b p q Gap t closed is after = (ap (λ (v : Token). Ok (pulled_as.Token v)) is, after, refl)

pub pulls_at_once : (size : ℕ) (c b : List ℕ) (p q : Pending) (t : Token) → PullsAtOnce p q t → Pulls size c b b p q (Ok (pulled_as.Token t))
pulls_at_once size c b p q t h = subst (λ (o : Option Item). PullsItem size c b b p q o (Ok (pulled_as.Token t))) (sym h.next) (hands_at_once size b p q h.item t h.closed h.is h.after)

pub came : (p q : Pending) (o : Option Token) (t : Token) → o ≡ Some t → IfSome o (λ u. PullsAtOnce p q u) → PullsAtOnce p q t
came p q o t is h = subst (λ (x : Option Token). IfSome x (λ u. PullsAtOnce p q u)) is h
