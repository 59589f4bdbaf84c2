-- What stands in front of a level.
use Rattle.std.proofs.Common.{◌≡◌, ℕ, List, [], ◌∷◌, map, Option, None, Some, Bool, true, false, refl, sym, ap, subst, ◌∙◌, ◌⊎◌, inl, inr}
use Rattle.std.specs.Prelude.{MatchOption, option_map, slice_get}
use Rattle.std.proofs.lemmas.Option.{same_Some, none-some}
use Rattle.tex_defs.specs.declared.Token.{Token}
use Rattle.token_lists.specs.Table.{Entry}
use Rattle.input_stack.specs.Whole.{WholeCall, with_arguments}
use Rattle.input_stack.specs.WholeLevel.{WholeLevel}
use Rattle.input_stack.specs.WholeLevel as level
use Rattle.input_stack.specs.declared.level.Pulled.TheVariants as pulled_as
use Rattle.token_lists.specs.declared.ListRef.{ListRef}
use Rattle.input_stack.specs.declared.call.Call.{Call}
use Rattle.input_stack.specs.declared.level.Level.{Level}
use Rattle.input_stack.specs.declared.level.Level.TheVariants as bare
use Rattle.input_stack.specs.declared.level.Source.{Source}
use Rattle.input_stack.specs.declared.reader.Reader.{Reader}
use Rattle.input_stack.specs.Rest.{rest}
use Rattle.input_stack.specs.Wholes.{whole}
use Rattle.input_stack.specs.declared.met.Met.TheVariants as met_as
use Rattle.input_stack.specs.Puts.{Item, Text, first, is_empty, without_gaps}
use Rattle.input_stack.specs.CallViews.{met, is_opening, items_of, opens, Closes, CallPulls}
use Rattle.input_stack.specs.Levels.{LevelCloses, LevelPulls, CallLevelGives, level_item, is_level_passed}

pub list_some : (ts : List Token) (t : Token) → Some t ≡ slice_get ts 0 → Some (met_as.Text t) ≡ met (first (map Text ts))
list_some [] t is = absurd (none-some t (sym is))
list_some (u ∷ ts) t is = ap (λ (x : Token). Some (met_as.Text x)) (same_Some _ _ is)

pub list_none : (ts : List Token) → None ≡ slice_get ts 0 → None ≡ met (first (map Text ts))
list_none [] is = refl
list_none (t ∷ ts) is = absurd (none-some t is)

-- whether an item comes and is an argument's first token
abbrev pub Opens : List (Option Entry) → WholeLevel → Option Bool → Type 0
Opens table l r = MatchOption r (is_level_passed table l ≡ true) (λ o. (is_level_passed table l ≡ false) × (o ≡ is_opening (met (level_item table l))))

items_open : (xs : List Item) (r : Option Bool) → r ≡ option_map opens (met (first xs)) → MatchOption r (is_empty xs ≡ true) (λ o. (is_empty xs ≡ false) × (o ≡ is_opening (met (first xs))))
items_open [] None is = refl
items_open [] (Some o) is = absurd (none-some o (sym is))
items_open (x ∷ xs) None is = absurd (none-some _ is)
items_open (x ∷ xs) (Some o) is = (refl, same_Some _ _ is)

list_opens : (table : List (Option Entry)) (l : WholeLevel) (q : Reader) (r : Option Bool) → l ≡ level.List q → r ≡ option_map opens (met (level_item table l)) → Opens table l r
list_opens table l q r is at = subst (λ (k : WholeLevel). Opens table k r) (sym is) (items_open (map Text (rest table q)) r (at ∙ ap (λ (k : WholeLevel). option_map opens (met (level_item table k))) is))

call_opens : (table : List (Option Entry)) (l : WholeLevel) (c : WholeCall) (r : Option Bool) → l ≡ level.Call c → r ≡ option_map opens (met (level_item table l)) → Opens table l r
call_opens table l c r is at = subst (λ (k : WholeLevel). Opens table k r) (sym is) (items_open (without_gaps (items_of table c)) r (at ∙ ap (λ (k : WholeLevel). option_map opens (met (level_item table k))) is))

pub source_opens : (table : List (Option Entry)) (l : WholeLevel) (s : Source) → l ≡ level.Source s → Opens table l (Some false)
source_opens table l s is = subst (λ (k : WholeLevel). Opens table k (Some false)) (sym is) (refl, refl)

pub listed_opens : (table : List (Option Entry)) (args : List (Option ListRef)) (v : Level) (r : Option Bool) → ((q : Reader) × (v ≡ bare.List q)) ⊎ ((c : Call) × (v ≡ bare.Call c)) → r ≡ option_map opens (met (level_item table (whole args v))) → Opens table (whole args v) r
listed_opens table args v r (inl (q, is)) at = list_opens table (whole args v) q r (ap (whole args) is) at
listed_opens table args v r (inr (c, is)) at = call_opens table (whole args v) (with_arguments args c) r (ap (whole args) is) at

pub opening_some : (table : List (Option Entry)) (l : WholeLevel) (r : Option Bool) (o : Bool) → r ≡ Some o → Opens table l r → (is_level_passed table l ≡ false) × (o ≡ is_opening (met (level_item table l)))
opening_some table l r o is h = subst (Opens table l) is h

pub opening_none : (table : List (Option Entry)) (l : WholeLevel) (r : Option Bool) → r ≡ None → Opens table l r → is_level_passed table l ≡ true
opening_none table l r is h = subst (Opens table l) is h

pub call_closes : (old new : List (Option Entry)) (l : WholeLevel) (c c' : WholeCall) (b : Bool) → l ≡ level.Call c → Closes old new c c' b → LevelCloses old new l (level.Call c') b
call_closes old new l c c' b is h = subst (λ (k : WholeLevel). LevelCloses old new k (level.Call c') b) (sym is) (record { call = c'; is = refl; closes = h })

gives : (old new : List (Option Entry)) (bs : List ℕ) (c c' : WholeCall) (zs : List Item) (t : Token) → without_gaps (items_of old c) ≡ zs → CallPulls old new c c' zs (Some t) → CallLevelGives old new bs bs c (level.Call c') (pulled_as.Token t)
gives old new bs c c' [] t is h = absurd (none-some t (sym h))
gives old new bs c c' (x ∷ xs) t is h = record {
  call = c';
  is = refl;
  item = x;
  left = xs;
  next = is;
  gives = h.1;
  answer = ap (λ (u : Token). pulled_as.Token u) (same_Some _ _ h.0);
  bytes = refl;
}

pub call_pulls : (old new : List (Option Entry)) (categories bs : List ℕ) (l : WholeLevel) (c c' : WholeCall) (o : Option Token) (t : Token) → l ≡ level.Call c → CallPulls old new c c' (without_gaps (items_of old c)) o → o ≡ Some t → LevelPulls old new categories bs bs l (level.Call c') (pulled_as.Token t)
call_pulls old new categories bs l c c' o t is h some =
    let k = subst (λ (p : Option Token). CallPulls old new c c' (without_gaps (items_of old c)) p) some h in
    subst (λ (k : WholeLevel). LevelPulls old new categories bs bs k (level.Call c') (pulled_as.Token t)) (sym is) (gives old new bs c c' (without_gaps (items_of old c)) t refl k)
