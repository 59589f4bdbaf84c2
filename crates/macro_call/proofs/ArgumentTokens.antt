-- Tokens that are the same.
use Rattle.std.proofs.Common.{◌≡◌, List, [], ◌∷◌, refl, sym, ap, true, false}
use Rattle.std.specs.Prelude.{◌==◌}
use Rattle.std.proofs.lemmas.Bool.{and_parts, and_from, eqb-true, eq-eqb, true≢false}
use Rattle.tex_defs.specs.declared.Token.{Token}
use Rattle.tex_defs.specs.declared.Token.TheVariants.{Char, Named, Marked, Place, Number, EndPlaces}
use Rattle.tex_defs.specs.declared.Name.{Name}
use Rattle.tex_defs.specs.declared.Name.TheVariants.{Active, Single, Empty, Word}
use Rattle.tex_defs.specs.declared.Name.TheVariants as name
use Rattle.tex_defs.specs.declared.Frozen.{Frozen}
use Rattle.tex_defs.specs.declared.Frozen.TheVariants.{Relax, Fi, EndGroup, EndWrite, Inaccessible, Unknown}
use Rattle.plain_tokens.specs.Arguments.{frozen_number, same_name, same, is_prefix, are_same, is_begin, is_end, is_par}

no : {A : Type 0} → false ≡ true → A
no h = absurd (true≢false (sym h))

frozen_true : (f g : Frozen) → (frozen_number f == frozen_number g) ≡ true → f ≡ g
frozen_true Relax Relax h = refl
frozen_true Fi Fi h = refl
frozen_true EndGroup EndGroup h = refl
frozen_true EndWrite EndWrite h = refl
frozen_true Inaccessible Inaccessible h = refl
frozen_true Unknown Unknown h = refl
frozen_true f g h = no h

pub same_name_true : (a b : Name) → same_name a b ≡ true → a ≡ b
same_name_true (Active a) (Active b) h = ap Active (eqb-true a b h)
same_name_true (Single a) (Single b) h = ap Single (eqb-true a b h)
same_name_true Empty Empty h = refl
same_name_true (Word a) (Word b) h = ap Word (eqb-true a b h)
same_name_true (name.Frozen f) (name.Frozen g) h = ap name.Frozen (frozen_true f g h)
same_name_true a b h = no h

pub same_true : (a b : Token) → same a b ≡ true → a ≡ b
same_true (Char a b) (Char c d) h = let (p, q) = and_parts (a == c) (b == d) h in let e1 : a ≡ c = eqb-true a c p in let e2 : b ≡ d = eqb-true b d q in cc
same_true (Named a) (Named b) h = ap Named (same_name_true a b h)
same_true (Marked a) (Marked b) h = ap Marked (same_name_true a b h)
same_true (Place a) (Place b) h = ap Place (eqb-true a b h)
same_true (Number a) (Number b) h = ap Number (eqb-true a b h)
same_true EndPlaces EndPlaces h = refl
same_true a b h = no h

same_name_refl : (n : Name) → same_name n n ≡ true
same_name_refl (Active a) = eq-eqb a a refl
same_name_refl (Single a) = eq-eqb a a refl
same_name_refl Empty = refl
same_name_refl (Word a) = eq-eqb a a refl
same_name_refl (name.Frozen f) = eq-eqb (frozen_number f) (frozen_number f) refl

pub same_refl : (x : Token) → same x x ≡ true
same_refl (Char a b) = and_from (a == a) (b == b) (eq-eqb a a refl) (eq-eqb b b refl)
same_refl (Named n) = same_name_refl n
same_refl (Marked n) = same_name_refl n
same_refl (Place a) = eq-eqb a a refl
same_refl (Number a) = eq-eqb a a refl
same_refl EndPlaces = refl

pub are_same_refl : (xs : List Token) → are_same xs xs ≡ true
are_same_refl [] = refl
are_same_refl (x ∷ xs) = and_from (same x x) (are_same xs xs) (same_refl x) (are_same_refl xs)

pub are_same_true : (xs ys : List Token) → are_same xs ys ≡ true → xs ≡ ys
are_same_true [] [] h = refl
are_same_true [] (y ∷ ys) h = no h
are_same_true (x ∷ xs) [] h = no h
are_same_true (x ∷ xs) (y ∷ ys) h =
    let parts : (same x y ≡ true) × (are_same xs ys ≡ true) = and_parts (same x y) (are_same xs ys) h in
    let a : x ≡ y = same_true x y parts.0 in
    let b : xs ≡ ys = are_same_true xs ys parts.1 in
    (cc)

pub prefix_refl : (ds : List Token) → is_prefix ds ds ≡ true
prefix_refl [] = refl
prefix_refl (x ∷ xs) = and_from (same x x) (is_prefix xs xs) (same_refl x) (prefix_refl xs)

-- no token is both braces
pub no_both : (x : Token) → is_begin x ≡ true → is_end x ≡ false
no_both (Char category code) h = let e : category ≡ 1 = eqb-true category 1 h in rw e refl
no_both x h = refl

pub no_par_end : (x : Token) → is_end x ≡ true → is_par x ≡ false
no_par_end (Char category code) h = refl
no_par_end x h = no h
