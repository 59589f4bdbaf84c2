-- The search finds the shortest balanced list that is followed by the delimiter.
use Rattle.std.proofs.Common.{◌≡◌, ℕ, ◌≤◌, List, [], ◌∷◌, ◌++◌, length, refl, sym, ap, ◌∙◌, arith, true, false, not, ◌&&◌, append_assoc, length-append}
use Rattle.std.specs.Prelude.{◌==◌}
use Rattle.std.proofs.lemmas.Bool.{and_parts, false_from_ne_true, not-true}
use Rattle.std.proofs.lemmas.List.{take_at}
use Rattle.tex_defs.specs.declared.Token.{Token}
use Rattle.plain_tokens.specs.declared.par_mode.ParMode.TheVariants.{Long}
use Rattle.plain_tokens.specs.Arguments.{is_end, open_after, open_behind, all_close, is_delimited, is_extra, front, without_braces, delimited_case, Argument, Going, Gathered, search}
use Rattle.macro_call.specs.ArgumentLaws.{IsShortest, ArgumentsAreShortest, fed_with}
use Rattle.macro_call.proofs.ArgumentMatches.{delimited_is, is_delimited_by}
use Rattle.macro_call.proofs.ArgumentRuns.{search_at}

-- where each brace closes up to behind x, x is no extra one
no_extra : (n : ℕ) (t : List Token) (x : Token) (more : List Token) → all_close n (t ++ x ∷ more) ≡ true → (is_end x && (open_after n t == 0)) ≡ false
no_extra n [] x more h = not-true (is_end x && (n == 0)) (and_parts (not (is_end x && (n == 0))) (all_close (open_behind n x) more) h).0
no_extra n (y ∷ ys) x more h = no_extra (open_behind n y) ys x more (and_parts (not (is_end y && (n == 0))) (all_close (open_behind n y) (ys ++ x ∷ more)) h).1

front_of : (ds a : List Token) → front ds (a ++ ds) ≡ a
front_of ds a = take_at a ds _ (omega (arith, length-append a ds))

module _ (d : Token) (ds a rest : List Token) (short : IsShortest (d ∷ ds) a rest) (closes : all_close 0 (a ++ d ∷ ds) ≡ true) where
  -- the whole is met with its last token
  whole_case : (t : List Token) (x : Token) → t ++ x ∷ [] ≡ a ++ d ∷ ds → Argument (without_braces a) ≡ delimited_case (d ∷ ds) Long [] t x
  whole_case t x e =
      let yes : is_delimited (d ∷ ds) (t ++ x ∷ []) ≡ true = is_delimited_by (d ∷ ds) (t ++ x ∷ []) a e short.balanced in
      let f : front (d ∷ ds) (t ++ x ∷ []) ≡ a = ap (front (d ∷ ds)) e ∙ front_of (d ∷ ds) a in
      sym (rw (yes, f) refl)

  -- and no case before
  early_case : (t : List Token) (x y : Token) (us : List Token) → t ++ x ∷ y ∷ us ≡ a ++ d ∷ ds → Going ≡ delimited_case (d ∷ ds) Long [] t x
  early_case t x y us e =
      let n : is_delimited (d ∷ ds) (t ++ x ∷ []) ≡ false = false_from_ne_true (is_delimited (d ∷ ds) (t ++ x ∷ [])) (λ h.
      let (b, p, q) = delimited_is (d ∷ ds) (t ++ x ∷ []) h in
      let w : a ++ (d ∷ ds ++ rest) ≡ b ++ (d ∷ ds ++ (y ∷ us ++ rest)) =
      sym (append_assoc a (d ∷ ds) rest) ∙ ap (λ (l : List Token). l ++ rest) (sym e) ∙ append_assoc t (x ∷ y ∷ us) rest
      ∙ sym (append_assoc t (x ∷ []) (y ∷ us ++ rest)) ∙ ap (λ (l : List Token). l ++ (y ∷ us ++ rest)) p ∙ append_assoc b (d ∷ ds) (y ∷ us ++ rest) in
      let s : length a ≤ length b = short.shortest b (y ∷ us ++ rest) q w in
      omega (arith, ap length e, ap length p, length-append t (x ∷ []), length-append t (x ∷ y ∷ us), length-append a (d ∷ ds), length-append b (d ∷ ds))) in
      let m : is_extra t x ≡ false = no_extra 0 t x (y ∷ us) (ap (all_close 0) e ∙ closes) in
      sym (rw (n, m) refl)

  found : (us t : List Token) (x : Token) → t ++ x ∷ us ≡ a ++ d ∷ ds → search (d ∷ ds) false Long [] t (fed_with (x ∷ us ++ rest)) ≡ Gathered Long (without_braces a) (fed_with rest)
  found [] t x e = search_at (d ∷ ds) false Long [] t x (fed_with rest) (Argument (without_braces a)) (whole_case t x e)
  found (y ∷ us) t x e =
      search_at (d ∷ ds) false Long [] t x (fed_with (y ∷ us ++ rest)) Going (early_case t x y us e)
      ∙ found us (t ++ x ∷ []) y (append_assoc t (x ∷ []) (y ∷ us) ∙ e)

starts : (d : Token) (ds a rest : List Token) → IsShortest (d ∷ ds) a rest → all_close 0 (a ++ d ∷ ds) ≡ true →
    search (d ∷ ds) false Long [] [] (fed_with (a ++ (d ∷ ds ++ rest))) ≡ Gathered Long (without_braces a) (fed_with rest)
starts d ds [] rest short closes = found d ds [] rest short closes ds [] d refl
starts d ds (x ∷ xs) rest short closes =
    ap (λ (l : List Token). search (d ∷ ds) false Long [] [] (fed_with (x ∷ l))) (sym (append_assoc xs (d ∷ ds) rest))
    ∙ found d ds (x ∷ xs) rest short closes (xs ++ d ∷ ds) [] x refl

pub shortest : ArgumentsAreShortest
shortest = starts
