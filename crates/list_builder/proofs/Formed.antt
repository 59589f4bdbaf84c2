-- What definitions and texts come to.
use Rattle.std.proofs.Common.{◌≡◌, ℕ, ◌+◌, ◌≤◌, Bool, true, false, List, [], ◌∷◌, ◌++◌, Option, Some, None, refl, sym, ap, ◌∙◌, arith, append_assoc}
use Rattle.std.specs.Prelude.{if◌then◌else◌, ◌&&◌, nat_le}
use Rattle.std.proofs.lemmas.Bool.Decides.{nat_tests}
use Rattle.std.proofs.lemmas.List.{append-nil}
use Rattle.tex_syntax.specs.declared.words.Manner.{Manner}
use Rattle.tex_defs.specs.declared.Token.{Token}
use Rattle.tex_defs.specs.declared.Token.TheVariants.{Char, Named, Marked, Place, Number, EndPlaces}
use Rattle.tex_defs.specs.declared.Meaning.{Meaning}
use Rattle.plain_tokens.specs.Categories.{begin_group, end_group}
use Rattle.plain_tokens.specs.Tokens.{has_category, means_category}
use Rattle.list_builder.specs.declared.stage.Stage.{Stage}
use Rattle.list_builder.specs.declared.stage.Stage.TheVariants.{First, FirstMissing, Parameters, Misnumbered, Tenth, BodyMissing, InBody}
use Rattle.list_builder.specs.declared.stage.Stage.TheVariants as stage
use Rattle.plain_state.specs.Definitions.{Fed, Tok, Noted, Given, Done, is_parameter, character_of, is_digit, with_cell, macro_body, text_body}
use Rattle.list_builder.specs.Stages.{resume}
use Rattle.list_builder.specs.Forms.{closes, is_plain, are_plain, are_in_front, is_place, places, is_in_body, are_in_body, IsBegin, IsMacro, IsText, IsSeen, IsClean}
use Rattle.list_builder.proofs.Groups.{both, both_left, both_right}
use Rattle.list_builder.proofs.Bodies.{chosen, IsNoBrace, stood_begun, Completed, completed}

-- TEXTS

in_text : (t : Token) → is_in_body 0 t ≡ true → is_plain t ≡ true
in_text (Char category code) e = refl
in_text (Named name) e = refl
in_text (Marked name) e = refl
in_text (Place c) e = e
in_text (Number k) e = by k e
  where
    by : (n : ℕ) → (nat_le 1 n && nat_le n 0) ≡ true → false ≡ true
    by n e = grind (arith, nat_tests)
in_text EndPlaces e = e

all_in_text : (ts : List Token) → are_in_body 0 ts ≡ true → are_plain ts ≡ true
all_in_text [] e = refl
all_in_text (t ∷ ts) e = both _ _ (in_text t (both_left _ _ e)) (all_in_text ts (both_right _ _ e))

text_of : (ts : List Token) → Completed [] 0 None ts → IsText ts
text_of ts c =
    let is : ts ≡ c.stood.inside = c.whole ∙ c.stood.whole in
    record {
      plain = ap are_plain is ∙ all_in_text c.stood.inside c.stood.in_body;
      balanced = ap (closes 0) is ∙ c.stood.opens;
    }

-- in front of a text
abbrev pub Waits : Stage → Type 0
Waits First = Unit {0}
Waits FirstMissing = Unit {0}
Waits s = ⊥

pub texts : (m : Manner) (s : Stage) (fed : List Fed) (ts : List Token) → Waits s → IsClean fed → resume m s [] fed ≡ Done ts → IsText ts
texts m First [] ts w clean e = absurd (cc)
texts m First (Noted ∷ fed) ts w clean e = texts m First fed ts tt clean e
texts m First (Given us ∷ fed) ts w clean e = texts m First fed ts tt clean.1 e
texts m First (Tok x ∷ fed) ts w clean e =
    chosen (means_category begin_group x.meaning) _ _ ts
    (λ a i. text_of ts (completed [] m (InBody text_body 0) [] fed ts (stood_begun [] 0) clean.1 i))
    (λ a i. texts m FirstMissing fed ts tt clean.1 i) e
texts m FirstMissing [] ts w clean e = absurd (cc)
texts m FirstMissing (Noted ∷ fed) ts w clean e = text_of ts (completed [] m (InBody text_body 0) [] fed ts (stood_begun [] 0) clean e)
texts m FirstMissing (Given us ∷ fed) ts w clean e = texts m FirstMissing fed ts tt clean.1 e
texts m FirstMissing (Tok x ∷ fed) ts w clean e = texts m FirstMissing fed ts tt clean.1 e
texts m s fed ts w clean e = absurd w

-- DEFINITIONS

front_append : (xs ys : List Token) → are_in_front xs ≡ true → are_in_front ys ≡ true → are_in_front (xs ++ ys) ≡ true
front_append [] ys e f = f
front_append (x ∷ xs) ys e f = both _ _ (both_left _ _ e) (front_append xs ys (both_right _ _ e) f)

places_append : (xs ys : List Token) → places (xs ++ ys) ≡ places xs + places ys
places_append [] ys = omega arith
places_append (x ∷ xs) ys = by (is_place x) (places_append xs ys)
  where
    by : (b : Bool) → places (xs ++ ys) ≡ places xs + places ys → (if b then places (xs ++ ys) + 1 else places (xs ++ ys)) ≡ (if b then places xs + 1 else places xs) + places ys
    by true e = omega arith
    by false e = e

-- a parameter text, with so many places
pub record Front (count : ℕ) (list : List Token) : Type 0 where
  pub tokens : are_in_front list ≡ true
  pub counted : places list ≡ count
  pub few : count ≤ 9

other_in : (t : Token) (m : Meaning Unit) → IsSeen t m → IsNoBrace t → (are_in_front (t ∷ []) ≡ true) × (places (t ∷ []) ≡ 0)
other_in (Char category code) m s n = (rw n.begins (rw n.ends), refl)
other_in (Named name) m s n = (refl, refl)
other_in (Marked name) m s n = (refl, refl)
other_in (Place c) m s n = absurd s
other_in (Number k) m s n = absurd s
other_in EndPlaces m s n = absurd s

front_on : (count : ℕ) (list : List Token) (t : Token) (m : Meaning Unit) → Front count list → IsSeen t m → IsNoBrace t → Front count (list ++ t ∷ [])
front_on count list t m f s n =
    let o = other_in t m s n in
    record {
      tokens = front_append list (t ∷ []) f.tokens o.0;
      counted = places_append list (t ∷ []) ∙ omega (arith, o.1, f.counted);
      few = f.few;
    }

front_place : (count c : ℕ) (list : List Token) → Front count list → count + 1 ≤ 9 → Front (count + 1) (list ++ Place c ∷ [])
front_place count c list f few = record {
  tokens = front_append list (Place c ∷ []) f.tokens refl;
  counted = places_append list (Place c ∷ []) ∙ omega (arith, f.counted);
  few = few;
}

macro_of : (count : ℕ) (list : List Token) (brace : Option Token) (ts : List Token) → Front count list → IsBegin brace → Completed (with_cell list brace ++ EndPlaces ∷ []) count brace ts → IsMacro ts
macro_of count list brace ts f begins c = record {
  front = list;
  inside = c.stood.inside;
  brace = brace;
  whole = c.whole ∙ ap (λ (l : List Token). with_cell l brace) (c.stood.whole ∙ append_assoc (with_cell list brace) (EndPlaces ∷ []) c.stood.inside);
  in_front = f.tokens;
  few = omega (arith, f.few, f.counted);
  in_body = ap (λ (n : ℕ). are_in_body n c.stood.inside) f.counted ∙ c.stood.in_body;
  balanced = c.stood.opens;
  begins = begins;
}

-- where a stage of a parameter text stands
abbrev pub Leads : Stage → List Token → Type 0
Leads (Parameters n) list = Front n list
Leads (stage.Place n c) list = Front n list
Leads (Tenth n) list = Front n list
Leads (Misnumbered n c) list = Front n (list ++ Place c ∷ [])
Leads BodyMissing list = (f : List Token) × (list ≡ f ++ EndPlaces ∷ []) × Front (places f) f
Leads s list = ⊥

below_nine : (n : ℕ) → nat_le 9 n ≡ false → n + 1 ≤ 9
below_nine n e = grind (arith, nat_tests)

empty_body : (f list ts : List Token) → list ≡ f ++ EndPlaces ∷ [] → Front (places f) f → Done list ≡ Done ts → IsMacro ts
empty_body f list ts is front e = macro_of (places f) f None ts front tt (record { list = list; stood = record { inside = []; whole = is ∙ sym (append-nil (f ++ EndPlaces ∷ [])); in_body = refl; opens = refl }; whole = cc })

pub definitions : (m : Manner) (s : Stage) (list : List Token) (fed : List Fed) (ts : List Token) → Leads s list → IsClean fed → resume m s list fed ≡ Done ts → IsMacro ts
definitions m (Parameters n) list [] ts l clean e = absurd (cc)
definitions m (Parameters n) list (Noted ∷ fed) ts l clean e = definitions m (Parameters n) list fed ts l clean e
definitions m (Parameters n) list (Given us ∷ fed) ts l clean e = definitions m (Parameters n) list fed ts l clean.1 e
definitions m (Parameters n) list (Tok x ∷ fed) ts l clean e =
    chosen (has_category begin_group x.token) _ _ ts
    (λ a i. macro_of n list None ts l tt (completed _ m (InBody (macro_body n None) 0) (list ++ EndPlaces ∷ []) fed ts (stood_begun _ n) clean.1 i))
    (λ a g. chosen (has_category end_group x.token) _ _ ts
    (λ o i. definitions m BodyMissing (list ++ EndPlaces ∷ []) fed ts (list, refl, record { tokens = l.tokens; counted = refl; few = omega (arith, l.counted, l.few) }) clean.1 i)
    (λ o i. chosen (is_parameter x) _ _ ts (λ p j. definitions m (stage.Place n (character_of x.meaning)) list fed ts l clean.1 j)
    (λ p j. definitions m (Parameters n) (list ++ x.token ∷ []) fed ts (front_on n list x.token x.meaning l clean.0 (record { begins = a; ends = o })) clean.1 j) i) g) e
definitions m (stage.Place n c) list [] ts l clean e = absurd (cc)
definitions m (stage.Place n c) list (Noted ∷ fed) ts l clean e = definitions m (stage.Place n c) list fed ts l clean e
definitions m (stage.Place n c) list (Given us ∷ fed) ts l clean e = definitions m (stage.Place n c) list fed ts l clean.1 e
definitions m (stage.Place n c) list (Tok y ∷ fed) ts l clean e =
    chosen (has_category begin_group y.token) _ _ ts
    (λ a i. macro_of n list (Some y.token) ts l a (completed _ m (InBody (macro_body n (Some y.token)) 0) ((list ++ y.token ∷ []) ++ EndPlaces ∷ []) fed ts (stood_begun _ n) clean.1 i))
    (λ a g. chosen (nat_le 9 n) _ _ ts (λ o i. definitions m (Tenth n) list fed ts l clean.1 i)
    (λ o i. chosen (is_digit (n + 1) y.token) _ _ ts
    (λ p j. definitions m (Parameters (n + 1)) (list ++ Place c ∷ []) fed ts (front_place n c list l (below_nine n o)) clean.1 j)
    (λ p j. definitions m (Misnumbered (n + 1) c) list fed ts (front_place n c list l (below_nine n o)) clean.1 j) i) g) e
definitions m (Misnumbered n c) list [] ts l clean e = absurd (cc)
definitions m (Misnumbered n c) list (Noted ∷ fed) ts l clean e = definitions m (Parameters n) (list ++ Place c ∷ []) fed ts l clean e
definitions m (Misnumbered n c) list (Given us ∷ fed) ts l clean e = definitions m (Misnumbered n c) list fed ts l clean.1 e
definitions m (Misnumbered n c) list (Tok y ∷ fed) ts l clean e = definitions m (Misnumbered n c) list fed ts l clean.1 e
definitions m (Tenth n) list [] ts l clean e = absurd (cc)
definitions m (Tenth n) list (Noted ∷ fed) ts l clean e = definitions m (Parameters n) list fed ts l clean e
definitions m (Tenth n) list (Given us ∷ fed) ts l clean e = definitions m (Tenth n) list fed ts l clean.1 e
definitions m (Tenth n) list (Tok y ∷ fed) ts l clean e = definitions m (Tenth n) list fed ts l clean.1 e
definitions m BodyMissing list [] ts l clean e = absurd (cc)
definitions m BodyMissing list (Noted ∷ fed) ts l clean e = empty_body l.0 list ts l.1 l.2 e
definitions m BodyMissing list (Given us ∷ fed) ts l clean e = definitions m BodyMissing list fed ts l clean.1 e
definitions m BodyMissing list (Tok y ∷ fed) ts l clean e = definitions m BodyMissing list fed ts l clean.1 e
definitions m s list fed ts l clean e = absurd l

pub begun : Front 0 []
begun = record { tokens = refl; counted = refl; few = omega arith }
