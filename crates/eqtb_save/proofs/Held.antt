-- What the groups hold is what all values of the one list and all saved values weigh.
use Rattle.std.proofs.Common.{◌≡◌, ℕ, suc, ◌+◌, ◌<◌, ◌≤◌, List, [], ◌∷◌, ◌++◌, length, get_or, map, drop, Option, None, Some, refl, sym, ap, subst, ◌∙◌, arith}
use Rattle.std.specs.Prelude.{sum_by, IfSome}
use Rattle.std.proofs.lemmas.List.{get_or-take, get_or-drop, drop-drop, length-take, length-drop}
use Rattle.std.proofs.lemmas.List.Sums.{sum_by-cons, sum_by-append, sum_by-take-drop, get_or-le-sum_by}
use Rattle.tex_defs.specs.declared.RegisterKind.TheVariants as register
use Rattle.token_lists.specs.declared.ListRef.{ListRef}
use Rattle.token_lists.specs.Accounts.{holds, Moves, Covers, Keeps, none}
use Rattle.token_lists.specs.Holders.{times}
use Rattle.token_lists.specs.Table.{Entry, IsHeld}
use Rattle.save_stack.specs.declared.Saved.{Saved}
use Rattle.save_stack.specs.Groups.{Stack, top, IsAt}
use Rattle.save_stack.specs.Accounts.{weighs, saved_weight, groups_weight, KeepsAll, Gains}
use Rattle.save_stack.specs.Mapped.{mapped}
use Rattle.save_stack.proofs.Mapped.{weighs_as}
use Rattle.equivalents.specs.declared.values.CodeKind.TheVariants as code
use Rattle.equivalents.specs.declared.values.Loc.TheVariants as loc
use Rattle.equivalents.specs.declared.values.Val.{Val}
use Rattle.equivalents.specs.declared.values.Val.TheVariants as val
use Rattle.equivalents.specs.Locations.{V, IsCategoryCode, IsNumber, IsGlue, IsTokens, IsMeaning, tokens_of, meaning_of, zero_value}
use Rattle.equivalents.specs.Groups.{Groups}
use Rattle.equivalents.specs.Flat.{row, tables_of, groups_of, AreSuited}
use Rattle.equivalents.specs.Holding.{value_list, with_list, list_of, lists_of, lists_of_meanings, lists_of_saved, lists_of_entries, lists_of_table, lists_held}
use Rattle.equivalents.specs.Laws.{IsWhole}
use Rattle.equivalents.proofs.Whole.{top_suited}
use Rattle.meanings.specs.Holding.{list_holds}
use Rattle.meanings.proofs.Counted.{list_is_held}
use Rattle.eqtb_save.specs.Values.{numbered_value}
use Rattle.eqtb_save.specs.Holding.{val_holds}

-- a value as it is kept
abbrev pub K : Type 0
K = Val (Option ListRef)

-- what it holds
abbrev pub weight : ℕ → K → ℕ
weight h v = val_holds (numbered_value v) h

-- ONE MAP

-- what stands in a row, and behind it
split_row : (w : V → ℕ) (cells : List V) (a n : ℕ) → sum_by w (drop a cells) ≡ sum_by w (row a n cells) + sum_by w (drop (a + n) cells)
split_row w cells a n = omega (arith, sum_by-take-drop w (drop a cells) n, ap (λ (xs : List V). sum_by w xs) (drop-drop n a cells))

-- each value of a list is one of these
abbrev Every : (V → Type 0) → List V → Type 0
Every P xs = (i : ℕ) → i < length xs → P (get_or xs i zero_value)

every_rest : (P : V → Type 0) (x : V) (xs : List V) → Every P (x ∷ xs) → Every P xs
every_rest P x xs all i within = all (suc i) (omega (arith, within))

module _ (h : ℕ) where
  abbrev w : V → ℕ
  w v = val_holds v h

  pub times_with : (o : Option ℕ) (xs : List ℕ) → times h (with_list o xs) ≡ list_holds o h + times h xs
  times_with None xs = omega arith
  times_with (Some id) xs = sum_by-cons (λ (n : ℕ). holds n h) id xs

  pub times_append : (xs ys : List ℕ) → times h (xs ++ ys) ≡ times h xs + times h ys
  times_append xs ys = sum_by-append (λ (n : ℕ). holds n h) xs ys

  -- values without lists
  abbrev HasNone : V → Type 0
  HasNone v = val_holds v h ≡ 0

  code_none : (v : V) → IsCategoryCode v → HasNone v
  code_none (val.Number n) is = refl
  code_none (val.Skip g) is = absurd is
  code_none (val.Meant m) is = absurd is
  code_none (val.Tokens t) is = absurd is

  number_none : (v : V) → IsNumber v → HasNone v
  number_none (val.Number n) is = refl
  number_none (val.Skip g) is = absurd is
  number_none (val.Meant m) is = absurd is
  number_none (val.Tokens t) is = absurd is

  glue_none : (v : V) → IsGlue v → HasNone v
  glue_none (val.Number n) is = absurd is
  glue_none (val.Skip g) is = refl
  glue_none (val.Meant m) is = absurd is
  glue_none (val.Tokens t) is = absurd is

  none_sum : (xs : List V) → Every HasNone xs → sum_by w xs ≡ 0
  none_sum [] all = refl
  none_sum (x ∷ xs) all = omega (arith, sum_by-cons w x xs, all 0 (omega arith), none_sum xs (every_rest HasNone x xs all))

  -- token lists
  tokens_holds : (v : V) → IsTokens v → val_holds v h ≡ list_holds (tokens_of v) h
  tokens_holds (val.Number n) is = absurd is
  tokens_holds (val.Skip g) is = absurd is
  tokens_holds (val.Meant m) is = absurd is
  tokens_holds (val.Tokens t) is = refl

  tokens_sum : (xs : List V) → Every IsTokens xs → sum_by w xs ≡ times h (lists_of (map tokens_of xs))
  tokens_sum [] all = refl
  tokens_sum (x ∷ xs) all = omega (arith, sum_by-cons w x xs, times_with (tokens_of x) (lists_of (map tokens_of xs)), tokens_holds x (all 0 (omega arith)), tokens_sum xs (every_rest IsTokens x xs all))

  -- meanings
  meaning_holds : (v : V) → IsMeaning v → val_holds v h ≡ list_holds (list_of (meaning_of v)) h
  meaning_holds (val.Number n) is = absurd is
  meaning_holds (val.Skip g) is = absurd is
  meaning_holds (val.Meant m) is = refl
  meaning_holds (val.Tokens t) is = absurd is

  meanings_sum : (xs : List V) → Every IsMeaning xs → sum_by w xs ≡ times h (lists_of_meanings (map meaning_of xs))
  meanings_sum [] all = refl
  meanings_sum (x ∷ xs) all = omega (arith, sum_by-cons w x xs, times_with (list_of (meaning_of x)) (lists_of_meanings (map meaning_of xs)), meaning_holds x (all 0 (omega arith)), meanings_sum xs (every_rest IsMeaning x xs all))

  module _ (cells : List V) (suited : AreSuited cells) where
    in_row : (P : V → Type 0) (a n : ℕ) → ((i : ℕ) → i < n → a + i < length cells → P (get_or cells (a + i) zero_value)) → Every P (row a n cells)
    in_row P a n all i within =
        let here : i < n = omega (arith, within, length-take n (drop a cells)) in
        let placed : a + i < length cells = omega (arith, within, length-take n (drop a cells), length-drop a cells) in
        let at : get_or (row a n cells) i zero_value ≡ get_or cells (a + i) zero_value = get_or-take n (drop a cells) i zero_value here ∙ get_or-drop a cells i zero_value in
        subst (λ (x : V). P x) (sym at) (all i here placed)

    -- a row without lists
    skip : (a n : ℕ) → ((i : ℕ) → i < n → a + i < length cells → HasNone (get_or cells (a + i) zero_value)) → sum_by w (drop a cells) ≡ sum_by w (drop (a + n) cells)
    skip a n all = omega (arith, split_row w cells a n, none_sum (row a n cells) (in_row HasNone a n all))

    before_toks : sum_by w cells ≡ sum_by w (drop 2654 cells)
    before_toks =
        skip 0 256 (λ i within placed. code_none (get_or cells (0 + i) zero_value) (suited.suits (loc.Code code.Category i) within placed))
        ∙ skip 256 256 (λ i within placed. number_none (get_or cells (256 + i) zero_value) (suited.suits (loc.Code code.Lowercase i) within placed))
        ∙ skip 512 256 (λ i within placed. number_none (get_or cells (512 + i) zero_value) (suited.suits (loc.Code code.Uppercase i) within placed))
        ∙ skip 768 256 (λ i within placed. number_none (get_or cells (768 + i) zero_value) (suited.suits (loc.Code code.SpaceFactor i) within placed))
        ∙ skip 1024 256 (λ i within placed. number_none (get_or cells (1024 + i) zero_value) (suited.suits (loc.Code code.Math i) within placed))
        ∙ skip 1280 256 (λ i within placed. number_none (get_or cells (1280 + i) zero_value) (suited.suits (loc.Code code.Delimiter i) within placed))
        ∙ skip 1536 55 (λ i within placed. number_none (get_or cells (1536 + i) zero_value) (suited.suits (loc.Integer i) within placed))
        ∙ skip 1591 21 (λ i within placed. number_none (get_or cells (1591 + i) zero_value) (suited.suits (loc.Dimension i) within placed))
        ∙ skip 1612 18 (λ i within placed. glue_none (get_or cells (1612 + i) zero_value) (suited.suits (loc.Glue i) within placed))
        ∙ skip 1630 256 (λ i within placed. number_none (get_or cells (1630 + i) zero_value) (suited.suits (loc.Register register.Count i) within placed))
        ∙ skip 1886 256 (λ i within placed. number_none (get_or cells (1886 + i) zero_value) (suited.suits (loc.Register register.Dimen i) within placed))
        ∙ skip 2142 256 (λ i within placed. glue_none (get_or cells (2142 + i) zero_value) (suited.suits (loc.Register register.Skip i) within placed))
        ∙ skip 2398 256 (λ i within placed. glue_none (get_or cells (2398 + i) zero_value) (suited.suits (loc.Register register.Muskip i) within placed))

    toks : sum_by w (row 2654 256 cells) ≡ times h (lists_of (map tokens_of (row 2654 256 cells)))
    toks = tokens_sum (row 2654 256 cells) (in_row IsTokens 2654 256 (λ i within placed. suited.suits (loc.Register register.Toks i) within placed))

    parameters : sum_by w (row 2910 8 cells) ≡ times h (lists_of (map tokens_of (row 2910 8 cells)))
    parameters = tokens_sum (row 2910 8 cells) (in_row IsTokens 2910 8 (λ i within placed. suited.suits (loc.Tokens i) within placed))

    names_mean : Every IsMeaning (drop 2918 cells)
    names_mean i within =
        subst (λ (x : V). IsMeaning x) (sym (get_or-drop 2918 cells i zero_value)) (suited.suits (loc.Means i) tt (omega (arith, within, length-drop 2918 cells)))

    meanings : sum_by w (drop 2918 cells) ≡ times h (lists_of_meanings (map meaning_of (drop 2918 cells)))
    meanings = meanings_sum (drop 2918 cells) names_mean

    -- a map holds what its values hold
    pub map_holds : times h (lists_of_table (tables_of cells)) ≡ sum_by w cells
    map_holds =
        let m = tables_of cells in
        omega (
          arith,
          before_toks,
          split_row w cells 2654 256,
          split_row w cells 2910 8,
          toks,
          parameters,
          meanings,
          times_append (lists_of m.toks) (lists_of m.parameters ++ lists_of_meanings m.meanings),
          times_append (lists_of m.parameters) (lists_of_meanings m.meanings),
        )

  -- SAVED VALUES

  saved_holds : (es : List (Saved V)) → times h (lists_of_saved es) ≡ saved_weight w es
  saved_holds [] = refl
  saved_holds (e ∷ es) = omega (arith, times_with (value_list e.value) (lists_of_saved es), saved_holds es, sum_by-cons (λ (x : Saved V). w x.value) e es)

  entries_hold : (gs : List (List (Saved V))) → times h (lists_of_entries gs) ≡ groups_weight w gs
  entries_hold [] = refl
  entries_hold (g ∷ gs) = omega (arith, times_append (lists_of_saved g) (lists_of_entries gs), saved_holds g, entries_hold gs, sum_by-cons (λ (x : List (Saved V)). saved_weight w x) g gs)

-- ALL GROUPS

pub lists_weigh : (s : Stack V) (h : ℕ) → IsWhole s → times h (lists_held (groups_of s)) ≡ weighs (λ v. val_holds v h) s
lists_weigh s h whole = omega (
  arith,
  times_append h (lists_of_table (tables_of (top s.maps))) (lists_of_entries s.entries),
  map_holds h (top s.maps) (top_suited s.maps whole.suited (omega (arith, whole.maps))),
  entries_hold h s.entries,
)

-- the same, of the values as they are kept
pub held_weighs : (s : Stack K) (h : ℕ) → IsWhole (mapped numbered_value s) → times h (lists_held (groups_of (mapped numbered_value s))) ≡ weighs (weight h) s
held_weighs s h whole = lists_weigh (mapped numbered_value s) h whole ∙ weighs_as numbered_value (λ v. val_holds v h) s

-- and of the groups as callers see them
pub held_is : (s : Stack K) (g : Groups) → groups_of (mapped numbered_value s) ≡ g → IsWhole (mapped numbered_value s) → (h : ℕ) → times h (lists_held g) ≡ weighs (weight h) s
held_is s g view whole h = sym (ap (λ (x : Groups). times h (lists_held x)) view) ∙ held_weighs s h whole

-- what stands at a location holds no more than all do
pub at_held : (s : Stack K) (g : Groups) (k : ℕ) (v : K) → groups_of (mapped numbered_value s) ≡ g → IsWhole (mapped numbered_value s) → k < length (top s.maps) → IsAt (top s.maps) k v → (h : ℕ) → weight h v ≤ times h (lists_held g)
at_held s g k v view whole within is h = omega (arith, held_is s g view whole h, get_or-le-sum_by (weight h) (top s.maps) k v within, ap (λ (x : K). weight h x) (is v))

-- A call was given what weighs so much, and handed back what weighs so much.
abbrev pub Balance : Stack K → Stack K → (given back : ℕ → ℕ) → Type 0
Balance s s' given back = (h : ℕ) → weighs (weight h) s' + back h ≡ weighs (weight h) s + given h

module _ (s s' : Stack K) (g : Groups) (view : groups_of (mapped numbered_value s) ≡ g) (whole : IsWhole (mapped numbered_value s)) where
  abbrev now : ℕ → ℕ
  now h = times h (lists_held (groups_of (mapped numbered_value s')))

  -- what is handed back is counted
  pub back_counted : (table : List (Option Entry)) (given : ℕ → ℕ) (y : K) → Covers table (λ h. given h + times h (lists_held g)) → Balance s s' given (λ h. weight h y) → IfSome (value_list (numbered_value y)) (λ id. IsHeld table id)
  back_counted table given y covers balance = list_is_held table (value_list (numbered_value y)) (λ h. omega (arith, covers h, balance h, held_is s g view whole h))

  pub keeps_by : (table table' : List (Option Entry)) (given back : ℕ → ℕ) → Balance s s' given back → Keeps table table' back → Keeps table table' (λ h. given h + times h (lists_held g))
  keeps_by table table' given back balance keeps = record {
    tokens = λ h more. keeps.tokens h (omega (arith, more, balance h, held_is s g view whole h));
    places = λ h more. keeps.places h (omega (arith, more, balance h, held_is s g view whole h));
  }

  module _ (whole' : IsWhole (mapped numbered_value s')) where
    pub moves_by : (table table' : List (Option Entry)) (given back : ℕ → ℕ) → Balance s s' given back → Moves table table' back none → Moves table table' (λ h. given h + times h (lists_held g)) now
    moves_by table table' given back balance moves = λ h. omega (arith, moves h, balance h, held_is s g view whole h, held_weighs s' h whole')

    -- nothing is handed back
    pub still_moves : (table : List (Option Entry)) (given : ℕ → ℕ) → Balance s s' given (λ h. 0) → Moves table table (λ h. given h + times h (lists_held g)) now
    still_moves table given balance = λ h. omega (arith, balance h, held_is s g view whole h, held_weighs s' h whole')

    pub same_held : KeepsAll s s' → (h : ℕ) → now h ≡ times h (lists_held g)
    same_held same h = omega (arith, same (weight h), held_is s g view whole h, held_weighs s' h whole')

    pub more_held : (v : K) → Gains s v s' → (h : ℕ) → now h ≡ times h (lists_held g) + val_holds (numbered_value v) h
    more_held v more h = omega (arith, more (weight h), held_is s g view whole h, held_weighs s' h whole')
