-- Lists stay under their other numbers: they are put and read, a macro is defined, a location gets a value, and a group ends.
use Rattle.std.proofs.Common.{◌≡◌, ℕ, suc, ◌<◌, ◌≤◌, Bool, true, false, ◌||◌, ◌⊎◌, List, [], ◌∷◌, ◌++◌, length, Option, Some, None, refl, sym, ap, ◌∙◌, subst, ⊎_elim, inl, inr, arith}
use Rattle.std.specs.Prelude.{◌==◌, slice_index_or}
use Rattle.std.proofs.Math.Bool.{or_assoc}
use Rattle.std.proofs.lemmas.Bool.{eqb-true, eq-eqb, or_cases, or_parts, or_left, or_right, cases_eq, cases_lt}
use Rattle.std.proofs.lemmas.List.{get_or_at, get_or_append_left, get_or_past, length-append}
use Rattle.tex_defs.specs.declared.Token.{Token}
use Rattle.tex_defs.specs.declared.Token.TheVariants as token
use Rattle.tex_defs.specs.declared.Name.{Name}
use Rattle.tex_defs.specs.declared.Seen.{Seen}
use Rattle.tex_defs.specs.declared.Meaning.{Meaning}
use Rattle.tex_defs.specs.declared.Meaning.TheVariants as means
use Rattle.plain_tokens.specs.Lex.{Lexed, Gives, Invalid, UsedUp, lexed}
use Rattle.plain_tokens.specs.Puts.{Item, Whole, Own, Macro, Put, put_top, with_put, unless_ended, without_ended, without_gaps, passed_top, passed}
use Rattle.plain_tokens.specs.Pending.{Pending, Source, Progress, Begun, Closed, end_token_lists, put_front, beneath, from_begun, from_file, from_line, from_list, from_front, pulled, after_pull, begun_by, with_begun, outer_puts, all_puts}
use Rattle.plain_tokens.specs.Meanings.{location, is_listed, fixed_meaning, looked_up, name_meaning, whole_meaning, let_meaning, meaning_to_let}
use Rattle.plain_tokens.specs.Tables.{is_whole, is_put}
use Rattle.plain_tokens.specs.Printed.{Style, meaning_head, meaning_text, meaning_tokens, list_text}
use Rattle.equivalents.specs.declared.values.Loc.{Loc}
use Rattle.equivalents.specs.declared.values.Val.TheVariants as val
use Rattle.equivalents.specs.Locations.{tokens_of}
use Rattle.equivalents.specs.Tables.{get}
use Rattle.equivalents.proofs.Names.{fixed_unlisted}
use Rattle.equivalents.specs.Groups.{Groups, set, set_name, first_groups}
use Rattle.equivalents.specs.Holding.{list_of, lists_of_meanings, lists_held}
use Rattle.plain_machine.specs.Plan.{shared_tokens}
use Rattle.plain_machine.specs.Numbers.{number_of_list, meaning_of, meanings_of, whole_of, put_of, puts_of, tables_of, renumbered, IsHeld, Tied}
use Rattle.plain_machine.proofs.Renumbering.{meaning_to_let_of}
use Rattle.plain_machine.proofs.GroupNumbers.{get_of, tokens_as}
use Rattle.plain_machine.proofs.MacroWords.{either}
use Rattle.plain_machine.proofs.Holders.{is_number, meanings_at, names_hold, now_held, set_cases, name_cases, first_lists, other_number, new_number, standing_is_held}

-- WHAT IS HELD

module _ (n : ℕ) where
  put_settled_top : (p : Put) (xs : List Item) (below rest : List Put) → (is_put n below ≡ true → is_put n rest ≡ true) → is_put n (unless_ended p xs below rest) ≡ true → (is_whole n p.list || is_put n rest) ≡ true
  put_settled_top p [] below rest f h = or_right (is_whole n p.list) (is_put n rest) (f h)
  put_settled_top p (x ∷ xs) below rest f h = h

  pub put_settled : (ps : List Put) → is_put n (without_ended ps) ≡ true → is_put n ps ≡ true
  put_settled [] h = h
  put_settled (p ∷ ps) h = put_settled_top p p.items (without_ended ps) ps (put_settled ps) h

  put_passed_top : (p : Put) (xs : List Item) (below rest : List Put) → (is_put n below ≡ true → is_put n rest ≡ true) → is_put n (passed_top p xs below rest) ≡ true → (is_whole n p.list || is_put n rest) ≡ true
  put_passed_top p [] below rest f h = or_right (is_whole n p.list) (is_put n rest) (f h)
  put_passed_top p (x ∷ xs) below rest f h = h

  pub put_passed : (ps : List Put) → is_put n (passed ps) ≡ true → is_put n ps ≡ true
  put_passed [] h = h
  put_passed (p ∷ ps) h = put_passed_top p (without_gaps p.items) (passed ps) ps (put_passed ps) h

  -- beside the lists beneath
  put_join : (ps qs : List Put) → is_put n (ps ++ qs) ≡ (is_put n ps || is_put n qs)
  put_join [] qs = refl
  put_join (p ∷ ps) qs = ap (λ (b : Bool). is_whole n p.list || b) (put_join ps qs) ∙ sym (or_assoc (is_whole n p.list) (is_put n ps) (is_put n qs))

  put_in_front : (ps ps' qs : List Put) → (is_put n ps ≡ true → is_put n ps' ≡ true) → is_put n (ps ++ qs) ≡ true → is_put n (ps' ++ qs) ≡ true
  put_in_front ps ps' qs f h = put_join ps' qs ∙ either (is_put n ps) (is_put n qs) (is_put n ps') (is_put n qs) f (λ a. a) (sym (put_join ps qs) ∙ h)

  put_beneath : (ps qs : List Put) → is_put n qs ≡ true → is_put n (ps ++ qs) ≡ true
  put_beneath ps qs h = put_join ps qs ∙ or_right (is_put n ps) (is_put n qs) h

  module _ (p : Pending) where
    -- the lists of all sources
    abbrev IsPut : Pending → Type 0
    IsPut q = is_put n (all_puts q) ≡ true

    all_beneath : (outer : List Source) → IsPut (beneath outer) → is_put n (outer_puts outer) ≡ true
    all_beneath [] h = h
    all_beneath (s ∷ outer) h = h

    put_over : IsPut (beneath p.outer) → IsPut p
    put_over h = put_beneath p.puts (outer_puts p.outer) (all_beneath p.outer h)

    put_begun : (ends : Bool) (bytes : List ℕ) → IsPut (after_pull p (from_begun p ends bytes)) → IsPut p
    put_begun true bytes h = put_over h
    put_begun false [] h = put_over h
    put_begun false (c ∷ cs) h = put_beneath p.puts (outer_puts p.outer) h

    put_file : (file : Progress) → IsPut (after_pull p (from_file p file)) → IsPut p
    put_file Begun h = put_begun p.ends p.rest h
    put_file Closed h = h

    put_line : (l : Lexed) → IsPut (after_pull p (from_line p l)) → IsPut p
    put_line (Gives x state line) h = put_beneath p.puts (outer_puts p.outer) h
    put_line (Invalid state line) h = put_beneath p.puts (outer_puts p.outer) h
    put_line UsedUp h = put_file p.file h

    put_list : (categories : List ℕ) (x : Put) (ps : List Put) (is : List Item) → (is_put n (x ∷ ps) ≡ true → is_put n p.puts ≡ true) → IsPut (after_pull p (from_list categories p x ps is)) → IsPut p
    put_list categories x ps [] f h = put_line (lexed categories p.lex p.line) h
    put_list categories x ps (i ∷ is) f h = put_in_front (x ∷ ps) p.puts (outer_puts p.outer) f h

    put_from_front : (categories : List ℕ) (ps : List Put) → (is_put n ps ≡ true → is_put n p.puts ≡ true) → IsPut (after_pull p (from_front categories p ps)) → IsPut p
    put_from_front categories [] f h = put_line (lexed categories p.lex p.line) h
    put_from_front categories (x ∷ ps) f h = put_list categories x ps x.items f h

    -- a reading leaves no list in front that wasn't there
    pub put_pulled : (categories : List ℕ) → IsPut (after_pull p (pulled categories p)) → IsPut p
    put_pulled categories h = put_from_front categories (passed p.puts) (put_passed p.puts) h

    -- nor is one there where the finished lists have gone, and where a file is begun
    pub put_settle : IsPut (end_token_lists p) → IsPut p
    put_settle h = put_in_front (without_ended p.puts) p.puts (outer_puts p.outer) (put_settled p.puts) h

    put_begun_by : (o : Option (List ℕ)) → IsPut (begun_by o p) → IsPut p
    put_begun_by None h = h
    put_begun_by (Some bytes) h = h

    pub put_with_begun : IsPut (with_begun p) → IsPut p
    put_with_begun h = put_begun_by p.next h

  put_put_top : (x : Put) (xs : List Item) (ps : List Put) → is_put n (put_top x xs ps) ≡ true → (is_whole n x.list ≡ true) ⊎ (is_put n ps ≡ true)
  put_put_top x [] ps h = inr h
  put_put_top x (i ∷ is) ps h = or_cases (is_whole n x.list) (is_put n ps) h

  pub put_with_put : (x : Put) (ps : List Put) → is_put n (with_put x ps) ≡ true → (is_whole n x.list ≡ true) ⊎ (is_put n ps ≡ true)
  put_with_put x ps h = put_put_top x x.items ps h

  pub put_put_front : (x : Put) (p : Pending) → is_put n (all_puts (put_front x p)) ≡ true → (is_whole n x.list ≡ true) ⊎ (is_put n (all_puts p) ≡ true)
  put_put_front x p h =
      ⊎_elim (λ a. ⊎_elim (λ b. inl b) (λ b. inr (put_join p.puts (outer_puts p.outer) ∙ or_left (is_put n p.puts) (is_put n (outer_puts p.outer)) b)) (put_with_put x p.puts a)) (λ a. inr (put_beneath p.puts (outer_puts p.outer) a))
      (or_cases (is_put n (with_put x p.puts)) (is_put n (outer_puts p.outer)) (sym (put_join (with_put x p.puts) (outer_puts p.outer)) ∙ h))

  -- what is held is held by a location, by a saved value or by a list in front
  pub held_more : (held held' : List ℕ) (puts puts' : List Put) → (is_listed held n ≡ true → is_listed held' n ≡ true) → (is_put n puts ≡ true → is_put n puts' ≡ true) → IsHeld n held puts → IsHeld n held' puts'
  held_more held held' puts puts' f g h = either (is_listed held n) (is_put n puts) (is_listed held' n) (is_put n puts') f g h

-- THE MACROS KEEP THEIR NUMBERS

module _ (number : ℕ → ℕ) (all_lists : List (List Token)) where
  -- nothing is held yet
  pub tied_first : (lists : List (List Token)) → Tied number all_lists [] [] lists
  tied_first lists = record { inside = λ n h. cc; within = λ n h. cc; tokens = λ n h. cc; apart = λ n m h i e. cc }

  pub tied_at_first : (knows : ℕ → Bool) (lists : List (List Token)) → Tied number all_lists (lists_held (first_groups knows)) [] lists
  tied_at_first knows lists = subst (λ (held : List ℕ). Tied number all_lists held [] lists) (sym (first_lists knows)) (tied_first lists)

  module _ (held held' : List ℕ) (puts puts' : List Put) (lists lists' : List (List Token)) (t : Tied number all_lists held puts lists) where
    -- no more is held, and the lists of what is held stay
    pub tied_kept : ((n : ℕ) → IsHeld n held' puts' → IsHeld n held puts × (slice_index_or lists' n [] ≡ slice_index_or lists n [])) → length lists' ≡ length lists → Tied number all_lists held' puts' lists'
    tied_kept kept same = record {
      inside = λ n h. (let l : n < length lists = t.inside n (kept n h).0 in omega arith);
      within = λ n h. t.within n (kept n h).0;
      tokens = λ n h. t.tokens n (kept n h).0 ∙ (let e : slice_index_or lists' n [] ≡ slice_index_or lists n [] = (kept n h).1 in cc);
      apart = λ n m h i e. t.apart n m (kept n h).0 (kept m i).0 e;
    }

  module _ (held : List ℕ) (puts : List Put) (lists : List (List Token)) (t : Tied number all_lists held puts lists) where
    -- no more is held
    pub tied_fewer : (held' : List ℕ) (puts' : List Put) → ((n : ℕ) → IsHeld n held' puts' → IsHeld n held puts) → Tied number all_lists held' puts' lists
    tied_fewer held' puts' fewer = tied_kept held held' puts puts' lists lists t (λ n h. (fewer n h, refl)) refl

    pub tied_puts : (puts' : List Put) → ((n : ℕ) → is_put n puts' ≡ true → is_put n puts ≡ true) → Tied number all_lists held puts' lists
    tied_puts puts' fewer = tied_fewer held puts' (λ n h. held_more n held held puts' puts (λ a. a) (fewer n) h)

    put_held : (x : Put) (puts' : List Put) → ((n : ℕ) → is_put n puts' ≡ true → (is_whole n x.list ≡ true) ⊎ (is_put n puts ≡ true)) → ((n : ℕ) → is_whole n x.list ≡ true → IsHeld n held puts) →
        Tied number all_lists held puts' lists
    put_held x puts' more own = tied_fewer held puts' (λ n h.
        ⊎_elim (λ a. or_left (is_listed held n) (is_put n puts) a)
        (λ a. ⊎_elim (λ b. own n b) (λ b. or_right (is_listed held n) (is_put n puts) b) (more n a)) (or_cases (is_listed held n) (is_put n puts') h))

    macro_held : (id : ℕ) (w : Whole) → w ≡ Macro id → IsHeld id held puts → (n : ℕ) → is_whole n w ≡ true → IsHeld n held puts
    macro_held id w e own n h =
        let here : is_whole n (Macro id) ≡ true = rw e at h in
        let same : id ≡ n = eqb-true id n here in
        rw same at own

    -- the list of a macro that is held is put once more
    macro_put : (id : ℕ) (x : Put) (puts' : List Put) → ((n : ℕ) → is_put n puts' ≡ true → (is_whole n x.list ≡ true) ⊎ (is_put n puts ≡ true)) → x.list ≡ Macro id → IsHeld id held puts → Tied number all_lists held puts' lists
    macro_put id x puts' more e own = put_held x puts' more (macro_held id x.list e own)

  -- over all that is pending
  module _ (held : List ℕ) (p : Pending) (lists : List (List Token)) (t : Tied number all_lists held (all_puts p) lists) where
    pub tied_settled : Tied number all_lists held (all_puts (end_token_lists p)) lists
    tied_settled = tied_puts held (all_puts p) lists t (all_puts (end_token_lists p)) (λ n h. put_settle n p h)

    pub tied_put : (id : ℕ) (x : Put) → x.list ≡ Macro id → IsHeld id held (all_puts p) → Tied number all_lists held (all_puts (put_front x p)) lists
    tied_put id x e own = macro_put held (all_puts p) lists t id x (all_puts (put_front x p)) (λ n h. put_put_front n x p h) e own

-- A MACRO IS DEFINED, and a location gets a list

module _ (number : ℕ → ℕ) (id new : ℕ) where
  whole_renumbered : (w : Whole) → is_whole id w ≡ false → whole_of (renumbered number id new) w ≡ whole_of number w
  whole_renumbered (Own ts) h = refl
  whole_renumbered (Macro k) h = ap (λ (n : ℕ). Macro n) (other_number number id new k (λ e. (let f : is_whole id (Macro k) ≡ true = eq-eqb k id e in cc)))

  pub puts_renumbered : (puts : List Put) → is_put id puts ≡ false → puts_of (renumbered number id new) puts ≡ puts_of number puts
  puts_renumbered [] h = refl
  puts_renumbered (p ∷ ps) h =
      let parts : (is_whole id p.list ≡ false) × (is_put id ps ≡ false) = or_parts (is_whole id p.list) (is_put id ps) h in
      let here : whole_of (renumbered number id new) p.list ≡ whole_of number p.list = whole_renumbered p.list parts.0 in
      let first : put_of (renumbered number id new) p ≡ put_of number p = ap (λ (w : Whole). record { list = w; arguments = p.arguments; items = p.items }) here in
      let behind : puts_of (renumbered number id new) ps ≡ puts_of number ps = puts_renumbered ps parts.1 in
      cc

-- what is held then is the new list, or was held
listed_then : (held held' : List ℕ) (puts : List Put) (id n : ℕ) → (is_listed held' n ≡ true → ((id == n) ≡ true) ⊎ (is_listed held n ≡ true)) → IsHeld n held' puts → (n ≡ id) ⊎ IsHeld n held puts
listed_then held held' puts id n cases h =
    ⊎_elim
    (λ a. ⊎_elim (λ b. inl (let e : id ≡ n = eqb-true id n b in cc)) (λ b. inr (or_left (is_listed held n) (is_put n puts) b)) (cases a))
    (λ a. inr (or_right (is_listed held n) (is_put n puts) a))
    (or_cases (is_listed held' n) (is_put n puts) h)

pub held_defined : (global : Bool) (g : Groups) (puts : List Put) (name : Name) (long outer : Bool) (id n : ℕ) → IsHeld n (lists_held (set_name global g name (means.Macro long outer (Some id)))) puts → (n ≡ id) ⊎ IsHeld n (lists_held g) puts
held_defined global g puts name long outer id n h =
    listed_then (lists_held g) (lists_held (set_name global g name (means.Macro long outer (Some id)))) puts id n (name_cases n global g name (means.Macro long outer (Some id))) h

pub held_listed : (global : Bool) (g : Groups) (puts : List Put) (l : Loc) (id n : ℕ) → IsHeld n (lists_held (set global g l (val.Tokens (Some id)))) puts → (n ≡ id) ⊎ IsHeld n (lists_held g) puts
held_listed global g puts l id n h = listed_then (lists_held g) (lists_held (set global g l (val.Tokens (Some id)))) puts id n (set_cases n global g l (val.Tokens (Some id))) h

module _ (number : ℕ → ℕ) (all_lists : List (List Token)) (held after : List ℕ) (puts : List Put) (lists lists' : List (List Token)) (id : ℕ) (ts : List Token) (cases : (n : ℕ) → IsHeld n after puts → (n ≡ id) ⊎ IsHeld n held puts) where
  abbrev numbered : ℕ → ℕ
  numbered = renumbered number id (length all_lists)

  module _ (t : Tied number all_lists held puts lists) (there : id < length lists') (longer : length lists ≤ length lists') (here : slice_index_or lists' id [] ≡ ts) (kept : (n : ℕ) → (n ≡ id → ⊥) → IsHeld n after puts → slice_index_or lists' n [] ≡ slice_index_or lists n []) where
    old : (n : ℕ) → (n ≡ id → ⊥) → IsHeld n after puts → IsHeld n held puts
    old n other h = ⊎_elim (λ e. absurd (other e)) (λ a. a) (cases n h)

    old_within : (n : ℕ) → (n ≡ id → ⊥) → IsHeld n after puts → numbered n < length all_lists
    old_within n other h =
        let e : numbered n ≡ number n = other_number number id (length all_lists) n other in
        let l : number n < length all_lists = t.within n (old n other h) in
        omega arith

    inside_then : (n : ℕ) → IsHeld n after puts → (n ≡ id) ⊎ (n ≡ id → ⊥) → n < length lists'
    inside_then n h (inl e) = omega arith
    inside_then n h (inr other) = let l : n < length lists = t.inside n (old n other h) in omega arith

    longer_macros : length (all_lists ++ ts ∷ []) ≡ suc (length all_lists)
    longer_macros = length-append all_lists (ts ∷ []) ∙ omega arith

    within_then : (n : ℕ) → IsHeld n after puts → (n ≡ id) ⊎ (n ≡ id → ⊥) → numbered n < length (all_lists ++ ts ∷ [])
    within_then n h (inl same) = let e : numbered n ≡ length all_lists = new_number number id (length all_lists) n same in omega (arith, longer_macros)
    within_then n h (inr other) = let l : numbered n < length all_lists = old_within n other h in omega (arith, longer_macros)

    tokens_then : (n : ℕ) → IsHeld n after puts → (n ≡ id) ⊎ (n ≡ id → ⊥) → slice_index_or (all_lists ++ ts ∷ []) (numbered n) [] ≡ slice_index_or lists' n []
    tokens_then n h (inl same) =
        let e : numbered n ≡ length all_lists = new_number number id (length all_lists) n same in
        let last : slice_index_or (all_lists ++ ts ∷ []) (numbered n) [] ≡ ts = get_or_at all_lists ts [] [] (numbered n) (omega arith) in
        let place : slice_index_or lists' n [] ≡ slice_index_or lists' id [] = ap (λ (k : ℕ). slice_index_or lists' k []) same in
        cc
    tokens_then n h (inr other) =
        let l : numbered n < length all_lists = old_within n other h in
        let left : slice_index_or (all_lists ++ ts ∷ []) (numbered n) [] ≡ slice_index_or all_lists (numbered n) [] = get_or_append_left all_lists (ts ∷ []) [] (numbered n) l in
        let e : numbered n ≡ number n = other_number number id (length all_lists) n other in
        let place : slice_index_or all_lists (numbered n) [] ≡ slice_index_or all_lists (number n) [] = ap (λ (k : ℕ). slice_index_or all_lists k []) e in
        let was : slice_index_or all_lists (number n) [] ≡ slice_index_or lists n [] = t.tokens n (old n other h) in
        let stays : slice_index_or lists' n [] ≡ slice_index_or lists n [] = kept n other h in
        cc

    apart_then : (n m : ℕ) → IsHeld n after puts → IsHeld m after puts → numbered n ≡ numbered m → (n ≡ id) ⊎ (n ≡ id → ⊥) → (m ≡ id) ⊎ (m ≡ id → ⊥) → n ≡ m
    apart_then n m h i e (inl a) (inl b) = omega arith
    apart_then n m h i e (inl a) (inr b) =
        let f : numbered n ≡ length all_lists = new_number number id (length all_lists) n a in
        let l : numbered m < length all_lists = old_within m b i in
        omega arith
    apart_then n m h i e (inr a) (inl b) =
        let f : numbered m ≡ length all_lists = new_number number id (length all_lists) m b in
        let l : numbered n < length all_lists = old_within n a h in
        omega arith
    apart_then n m h i e (inr a) (inr b) =
        let f : numbered n ≡ number n = other_number number id (length all_lists) n a in
        let g : numbered m ≡ number m = other_number number id (length all_lists) m b in
        let same : number n ≡ number m = omega arith in
        t.apart n m (old n a h) (old m b i) same

    -- the new list has the next number
    tied_more : Tied numbered (all_lists ++ ts ∷ []) after puts lists'
    tied_more = record {
      inside = λ n h. inside_then n h (cases_eq n id);
      within = λ n h. within_then n h (cases_eq n id);
      tokens = λ n h. tokens_then n h (cases_eq n id);
      apart = λ n m h i e. apart_then n m h i e (cases_eq n id) (cases_eq m id);
    }

module _ (number : ℕ → ℕ) (all_lists : List (List Token)) (global : Bool) (g : Groups) (puts : List Put) (lists lists' : List (List Token)) where
  -- of the macro that a name becomes
  pub tied_defined : (name : Name) (long outer : Bool) (id : ℕ) (ts : List Token) → Tied number all_lists (lists_held g) puts lists → id < length lists' → length lists ≤ length lists' → slice_index_or lists' id [] ≡ ts →
      ((n : ℕ) → (n ≡ id → ⊥) → IsHeld n (lists_held (set_name global g name (means.Macro long outer (Some id)))) puts → slice_index_or lists' n [] ≡ slice_index_or lists n []) →
      Tied (renumbered number id (length all_lists)) (all_lists ++ ts ∷ []) (lists_held (set_name global g name (means.Macro long outer (Some id)))) puts lists'
  tied_defined name long outer id ts t there longer here kept =
      tied_more number all_lists (lists_held g) (lists_held (set_name global g name (means.Macro long outer (Some id)))) puts lists lists' id ts (held_defined global g puts name long outer id) t there longer here kept

  -- and of a location
  pub tied_listed : (l : Loc) (id : ℕ) (ts : List Token) → Tied number all_lists (lists_held g) puts lists → id < length lists' → length lists ≤ length lists' → slice_index_or lists' id [] ≡ ts →
      ((n : ℕ) → (n ≡ id → ⊥) → IsHeld n (lists_held (set global g l (val.Tokens (Some id)))) puts → slice_index_or lists' n [] ≡ slice_index_or lists n []) →
      Tied (renumbered number id (length all_lists)) (all_lists ++ ts ∷ []) (lists_held (set global g l (val.Tokens (Some id)))) puts lists'
  tied_listed l id ts t there longer here kept =
      tied_more number all_lists (lists_held g) (lists_held (set global g l (val.Tokens (Some id)))) puts lists lists' id ts (held_listed global g puts l id) t there longer here kept

-- A NAME MEANS WHAT ANOTHER TOKEN MEANS

module _ (n : ℕ) where
  fixed_not : (name : Name) → is_number n (list_of (fixed_meaning name)) ≡ false
  fixed_not name = ap (is_number n) (fixed_unlisted name)

  looked_up_meant : (cells : List (Meaning (Option ℕ))) (o : Option ℕ) (fixed : Meaning (Option ℕ)) → is_number n (list_of fixed) ≡ false → is_number n (list_of (looked_up cells o fixed)) ≡ true → is_listed (lists_of_meanings cells) n ≡ true
  looked_up_meant cells None fixed none h = cc
  looked_up_meant cells (Some k) fixed none h = meanings_at n cells k h

  -- the macro that a name means
  pub named_meant : (cells : List (Meaning (Option ℕ))) (name : Name) → is_number n (list_of (name_meaning cells name)) ≡ true → is_listed (lists_of_meanings cells) n ≡ true
  named_meant cells name h = looked_up_meant cells (location name) (fixed_meaning name) (fixed_not name) h

  whole_meant : (cells : List (Meaning (Option ℕ))) (t : Token) → is_number n (list_of (whole_meaning cells t)) ≡ true → is_listed (lists_of_meanings cells) n ≡ true
  whole_meant cells (token.Char category c) h = cc
  whole_meant cells (token.Named name) h = named_meant cells name h
  whole_meant cells (token.Marked name) h = named_meant cells name h
  whole_meant cells t h = cc

  let_meant : (cells : List (Meaning (Option ℕ))) (t : Token) (m : Meaning Unit) → is_number n (list_of (let_meaning cells t m)) ≡ true → is_listed (lists_of_meanings cells) n ≡ true
  let_meant cells t means.RelaxMarked h = cc
  let_meant cells t m h = whole_meant cells t h

  -- the macro that `\let` gives is meant by a name
  pub given_meant : (cells : List (Meaning (Option ℕ))) (x : Seen) → is_number n (list_of (meaning_to_let cells x)) ≡ true → is_listed (lists_of_meanings cells) n ≡ true
  given_meant cells x h = let_meant cells x.token x.meaning h

  -- and so it is held
  pub name_held : (g : Groups) → is_listed (lists_of_meanings g.now.meanings) n ≡ true → is_listed (lists_held g) n ≡ true
  name_held g h = now_held n g (names_hold n g.now h)

module _ (number : ℕ → ℕ) (all_lists : List (List Token)) (held : List ℕ) (puts : List Put) (lists : List (List Token)) (t : Tied number all_lists held puts lists) where
  -- the lists of what is held stay, each of which has a token
  pub tied_stayed : (lists' : List (List Token)) → ((k : ℕ) → k < length all_lists → slice_index_or all_lists k [] ≡ [] → ⊥) → ((n : ℕ) → IsHeld n held puts → slice_index_or lists' n [] ≡ slice_index_or lists n []) →
      Tied number all_lists held puts lists'
  tied_stayed lists' some stays = record { inside = λ n h. inside_then n h (cases_lt n (length lists')); within = t.within; tokens = tokens_then; apart = t.apart } where
    tokens_then : (n : ℕ) → IsHeld n held puts → slice_index_or all_lists (number n) [] ≡ slice_index_or lists' n []
    tokens_then n h = t.tokens n h ∙ sym (stays n h)

    inside_then : (n : ℕ) → IsHeld n held puts → (n < length lists') ⊎ (length lists' ≤ n) → n < length lists'
    inside_then n h (inl below) = below
    inside_then n h (inr past) = absurd (some (number n) (t.within n h) (tokens_then n h ∙ get_or_past lists' n [] past))

-- WHAT IS SHOWN OF A MEANING

module _ (number : ℕ → ℕ) (all_lists : List (List Token)) (g : Groups) (puts : List Put) (lists : List (List Token)) (t : Tied number all_lists (lists_held g) puts lists) where
  macro_tokens_tied : (o : Option ℕ) → ((n : ℕ) → is_number n o ≡ true → IsHeld n (lists_held g) puts) → shared_tokens all_lists (number_of_list number o) ≡ shared_tokens lists o
  macro_tokens_tied None held = refl
  macro_tokens_tied (Some k) held = t.tokens k (held k (eq-eqb k k refl))

  tokens_tied : (m : Meaning (Option ℕ)) → ((n : ℕ) → is_number n (list_of m) ≡ true → IsHeld n (lists_held g) puts) → meaning_tokens (shared_tokens all_lists) (meaning_of number m) ≡ meaning_tokens (shared_tokens lists) m
  tokens_tied (means.Macro long outer list) held = macro_tokens_tied list held
  tokens_tied m held = refl

  text_tied : (style : Style) (m : Meaning (Option ℕ)) → ((n : ℕ) → is_number n (list_of m) ≡ true → IsHeld n (lists_held g) puts) → meaning_text style (shared_tokens all_lists) (meaning_of number m) ≡ meaning_text style (shared_tokens lists) m
  text_tied style (means.Macro long outer list) held = ap (λ (ts : List Token). meaning_head style (means.Macro long outer list) ++ list_text style ts) (macro_tokens_tied list held)
  text_tied style m held = refl

  given_held : (x : Seen) (n : ℕ) → is_number n (list_of (meaning_to_let g.now.meanings x)) ≡ true → IsHeld n (lists_held g) puts
  given_held x n h = or_left (is_listed (lists_held g) n) (is_put n puts) (name_held n g (given_meant n g.now.meanings x h))

  -- by `\meaning`
  pub text_let : (style : Style) (x : Seen) → meaning_text style (shared_tokens all_lists) (meaning_to_let (meanings_of number g.now.meanings) x) ≡ meaning_text style (shared_tokens lists) (meaning_to_let g.now.meanings x)
  text_let style x = ap (meaning_text style (shared_tokens all_lists)) (meaning_to_let_of number g.now.meanings x) ∙ text_tied style (meaning_to_let g.now.meanings x) (given_held x)

  -- by `\show`
  pub tokens_let : (x : Seen) → meaning_tokens (shared_tokens all_lists) (meaning_to_let (meanings_of number g.now.meanings) x) ≡ meaning_tokens (shared_tokens lists) (meaning_to_let g.now.meanings x)
  tokens_let x = ap (meaning_tokens (shared_tokens all_lists)) (meaning_to_let_of number g.now.meanings x) ∙ tokens_tied (meaning_to_let g.now.meanings x) (given_held x)

  pub standing_held : (l : Loc) (n : ℕ) → is_number n (tokens_of (get g.now l)) ≡ true → IsHeld n (lists_held g) puts
  standing_held l n h = or_left (is_listed (lists_held g) n) (is_put n puts) (standing_is_held n g l h)

  -- the list that stands at a location
  pub standing_tied : (l : Loc) → shared_tokens all_lists (tokens_of (get (tables_of number g.now) l)) ≡ shared_tokens lists (tokens_of (get g.now l))
  standing_tied l = ap (shared_tokens all_lists) (ap tokens_of (get_of number g.now l) ∙ tokens_as number (get g.now l)) ∙ macro_tokens_tied (tokens_of (get g.now l)) (standing_held l)
