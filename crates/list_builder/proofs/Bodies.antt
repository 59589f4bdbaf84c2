-- What a body comes to.
use Rattle.std.proofs.Common.{◌≡◌, ℕ, ◌+◌, ◌-◌, ◌≤◌, Bool, true, false, List, [], ◌∷◌, ◌++◌, Option, Some, None, refl, sym, ap, ◌∙◌, arith, append_assoc}
use Rattle.std.specs.Prelude.{if◌then◌else◌, ◌==◌, ◌&&◌, nat_le}
use Rattle.std.proofs.lemmas.Bool.{true≢false}
use Rattle.std.proofs.lemmas.Bool.Decides.{nat_tests}
use Rattle.std.proofs.lemmas.List.{append-nil}
use Rattle.tex_syntax.specs.declared.words.Manner.{Manner}
use Rattle.tex_defs.specs.declared.Token.{Token}
use Rattle.tex_defs.specs.declared.Token.TheVariants.{Char, Named, Marked, Place, Number, EndPlaces}
use Rattle.tex_defs.specs.declared.Meaning.{Meaning}
use Rattle.plain_tokens.specs.Categories.{begin_group, end_group, parameter}
use Rattle.plain_tokens.specs.Tokens.{has_category, means_category}
use Rattle.list_builder.specs.declared.stage.Stage.{Stage}
use Rattle.list_builder.specs.declared.stage.Stage.TheVariants.{InBody, Reference, Illegal}
use Rattle.plain_state.specs.Definitions.{Fed, Tok, Noted, Given, Answer, Done, is_parameter, is_number, place_digit, is_reference, count_of, with_cell}
use Rattle.list_builder.specs.Stages.{resume}
use Rattle.list_builder.specs.Forms.{closes, is_plain, are_plain, is_in_body, are_in_body, IsSeen, IsClean}
use Rattle.list_builder.proofs.Groups.{both, both_left, both_right, closes_append, closes_inside, end_begins_not}

-- a choice whose answer is known
pub chosen : {A : Type 0} (c : Bool) (p q : Answer) (ts : List Token) → (c ≡ true → p ≡ Done ts → A) → (c ≡ false → q ≡ Done ts → A) → (if c then p else q) ≡ Done ts → A
chosen true p q ts f g e = f refl e
chosen false p q ts f g e = g refl e

pub body_append : (n : ℕ) (xs ys : List Token) → are_in_body n xs ≡ true → are_in_body n ys ≡ true → are_in_body n (xs ++ ys) ≡ true
body_append n [] ys e f = f
body_append n (x ∷ xs) ys e f = both _ _ (both_left _ _ e) (body_append n xs ys (both_right _ _ e) f)

plain_in : (n : ℕ) (t : Token) → is_plain t ≡ true → is_in_body n t ≡ true
plain_in n (Char category code) e = refl
plain_in n (Named name) e = refl
plain_in n (Marked name) e = refl
plain_in n (Place c) e = e
plain_in n (Number k) e = absurd (true≢false (sym e))
plain_in n EndPlaces e = e

plain_all : (n : ℕ) (ts : List Token) → are_plain ts ≡ true → are_in_body n ts ≡ true
plain_all n [] e = refl
plain_all n (t ∷ ts) e = both _ _ (plain_in n t (both_left _ _ e)) (plain_all n ts (both_right _ _ e))

pub seen_plain : (t : Token) (m : Meaning Unit) → IsSeen t m → is_plain t ≡ true
seen_plain (Char category code) m s = refl
seen_plain (Named name) m s = refl
seen_plain (Marked name) m s = refl
seen_plain (Place c) m s = absurd s
seen_plain (Number k) m s = absurd s
seen_plain EndPlaces m s = absurd s

six_apart : (category k : ℕ) → (category == 6) ≡ true → k ≤ 5 → (category == k) ≡ false
six_apart category k e l = grind (arith, nat_tests)

-- a token that stands for itself and is a parameter character is no brace
pub record IsNoBrace (t : Token) : Type 0 where
  pub begins : has_category begin_group t ≡ false
  pub ends : has_category end_group t ≡ false

parameter_no_brace : (t : Token) (m : Meaning Unit) → IsSeen t m → means_category parameter m ≡ true → IsNoBrace t
parameter_no_brace (Char category code) m s e =
    let is : (category == 6) ≡ true = ap (λ (k : Meaning Unit). means_category parameter k) (sym s) ∙ e in
    record { begins = six_apart category 1 is (omega arith); ends = six_apart category 2 is (omega arith) }
parameter_no_brace (Named name) m s e = record { begins = refl; ends = refl }
parameter_no_brace (Marked name) m s e = record { begins = refl; ends = refl }
parameter_no_brace (Place c) m s e = absurd s
parameter_no_brace (Number k) m s e = absurd s
parameter_no_brace EndPlaces m s e = absurd s

number_between : (category code n : ℕ) → ((category == 12) && (nat_le 49 code && nat_le code (48 + n))) ≡ true → (nat_le 1 (code - 48) && nat_le (code - 48) n) ≡ true
number_between category code n e = grind (arith, nat_tests)

number_in : (n : ℕ) (t : Token) → is_number n t ≡ true → is_in_body n (Number (place_digit t)) ≡ true
number_in n (Char category code) e = number_between category code n e
number_in n (Named name) e = absurd (true≢false (sym e))
number_in n (Marked name) e = absurd (true≢false (sym e))
number_in n (Place c) e = absurd (true≢false (sym e))
number_in n (Number k) e = absurd (true≢false (sym e))
number_in n EndPlaces e = absurd (true≢false (sym e))

-- behind what stood in front there is a body in which so many groups are open
pub record Stood (front : List Token) (count depth : ℕ) (list : List Token) : Type 0 where
  pub inside : List Token
  pub whole : list ≡ front ++ inside
  pub in_body : are_in_body count inside ≡ true
  pub opens : closes 0 inside ≡ Some depth

pub stood_begun : (front : List Token) (count : ℕ) → Stood front count 0 front
stood_begun front count = record { inside = []; whole = sym (append-nil front); in_body = refl; opens = refl }

pub stood_on : (front : List Token) (count depth next : ℕ) (list us : List Token) → Stood front count depth list → are_in_body count us ≡ true → closes depth us ≡ Some next → Stood front count next (list ++ us)
stood_on front count depth next list us s e f = record {
  inside = s.inside ++ us;
  whole = ap (λ (l : List Token). l ++ us) s.whole ∙ append_assoc front s.inside us;
  in_body = body_append count s.inside us s.in_body e;
  opens = closes_append 0 depth s.inside us s.opens ∙ f;
}

one_in : (n : ℕ) (t : Token) → is_in_body n t ≡ true → are_in_body n (t ∷ []) ≡ true
one_in n t e = both _ _ e refl

closes_begin : (d : ℕ) (t : Token) → has_category begin_group t ≡ true → closes d (t ∷ []) ≡ Some (d + 1)
closes_begin d t e = rw e

closes_end : (d : ℕ) (t : Token) → has_category end_group t ≡ true → (d == 0) ≡ false → closes d (t ∷ []) ≡ Some (d - 1)
closes_end d t e z = rw (end_begins_not t e) (rw e (rw z))

closes_other : (d : ℕ) (t : Token) → IsNoBrace t → closes d (t ∷ []) ≡ Some d
closes_other d t n = rw n.begins (rw n.ends)

zero_depth : (d : ℕ) → (d == 0) ≡ true → d ≡ 0
zero_depth d e = grind (arith, nat_tests)

-- how a stage of a body stands
abbrev pub Holds : List Token → Stage → List Token → Type 0
Holds front (InBody b d) list = Stood front (count_of b.places) d list
Holds front (Reference b d c) list = Stood front (count_of b.places) d list × (is_plain c ≡ true) × IsNoBrace c
Holds front (Illegal b d c) list = Stood front (count_of b.places) d list × (is_plain c ≡ true) × IsNoBrace c
Holds front s list = ⊥

abbrev pub count_in : Stage → ℕ
count_in (InBody b d) = count_of b.places
count_in (Reference b d c) = count_of b.places
count_in (Illegal b d c) = count_of b.places
count_in s = 0

abbrev pub brace_in : Stage → Option Token
brace_in (InBody b d) = b.brace
brace_in (Reference b d c) = b.brace
brace_in (Illegal b d c) = b.brace
brace_in s = None

-- a body that is complete
pub record Completed (front : List Token) (count : ℕ) (brace : Option Token) (ts : List Token) : Type 0 where
  pub list : List Token
  pub stood : Stood front count 0 list
  pub whole : ts ≡ with_cell list brace

ended : (front : List Token) (count d : ℕ) (brace : Option Token) (list ts : List Token) → Stood front count d list → (d == 0) ≡ true → Done (with_cell list brace) ≡ Done ts → Completed front count brace ts
ended front count d brace list ts s z e = record {
  list = list;
  stood = record { inside = s.inside; whole = s.whole; in_body = s.in_body; opens = s.opens ∙ ap (λ (k : ℕ). Some k) (zero_depth d z) };
  whole = cc;
}

pub completed : (front : List Token) (m : Manner) (s : Stage) (list : List Token) (fed : List Fed) (ts : List Token) → Holds front s list → IsClean fed → resume m s list fed ≡ Done ts → Completed front (count_in s) (brace_in s) ts
completed front m (InBody b d) list [] ts h clean e = absurd (cc)
completed front m (InBody b d) list (Noted ∷ fed) ts h clean e = completed front m (InBody b d) list fed ts h clean e
completed front m (InBody b d) list (Given us ∷ fed) ts h clean e =
    completed front m (InBody b d) (list ++ us) fed ts (stood_on front _ d d list us h (plain_all _ us clean.0.plain) (closes_inside d us clean.0.balanced)) clean.1 e
completed front m (InBody b d) list (Tok x ∷ fed) ts h clean e =
    let p : is_plain x.token ≡ true = seen_plain x.token x.meaning clean.0 in
    let one : are_in_body (count_of b.places) (x.token ∷ []) ≡ true = one_in _ x.token (plain_in _ x.token p) in
    chosen (has_category begin_group x.token) _ _ ts
    (λ a i. completed front m (InBody b (d + 1)) (list ++ x.token ∷ []) fed ts (stood_on front _ d (d + 1) list _ h one (closes_begin d x.token a)) clean.1 i)
    (λ a g. chosen (has_category end_group x.token) _ _ ts
    (λ o i. chosen (d == 0) _ _ ts (λ z j. ended front _ d b.brace list ts h z j)
    (λ z j. completed front m (InBody b (d - 1)) (list ++ x.token ∷ []) fed ts (stood_on front _ d (d - 1) list _ h one (closes_end d x.token o z)) clean.1 j) i)
    (λ o i. let n : IsNoBrace x.token = record { begins = a; ends = o } in
    chosen (is_reference b x) _ _ ts (λ r j. completed front m (Reference b d x.token) list fed ts (h, p, n) clean.1 j)
    (λ r j. completed front m (InBody b d) (list ++ x.token ∷ []) fed ts (stood_on front _ d d list _ h one (closes_other d x.token n)) clean.1 j) i) g) e
completed front m (Reference b d c) list [] ts h clean e = absurd (cc)
completed front m (Reference b d c) list (Noted ∷ fed) ts h clean e = completed front m (Reference b d c) list fed ts h clean e
completed front m (Reference b d c) list (Given us ∷ fed) ts h clean e = completed front m (Reference b d c) list fed ts h clean.1 e
completed front m (Reference b d c) list (Tok y ∷ fed) ts h clean e =
    chosen (is_parameter y) _ _ ts
    (λ a i. completed front m (InBody b d) (list ++ y.token ∷ []) fed ts
    (stood_on front _ d d list _ h.0 (one_in _ y.token (plain_in _ y.token (seen_plain y.token y.meaning clean.0))) (closes_other d y.token (parameter_no_brace y.token y.meaning clean.0 a))) clean.1 i)
    (λ a g. chosen (is_number (count_of b.places) y.token) _ _ ts
    (λ o i. completed front m (InBody b d) (list ++ Number (place_digit y.token) ∷ []) fed ts (stood_on front _ d d list _ h.0 (one_in _ (Number (place_digit y.token)) (number_in _ y.token o)) refl) clean.1 i)
    (λ o i. completed front m (Illegal b d c) list fed ts h clean.1 i) g) e
completed front m (Illegal b d c) list [] ts h clean e = absurd (cc)
completed front m (Illegal b d c) list (Noted ∷ fed) ts h clean e = completed front m (InBody b d) (list ++ c ∷ []) fed ts (stood_on front _ d d list _ h.0 (one_in _ c (plain_in _ c h.1)) (closes_other d c h.2)) clean e
completed front m (Illegal b d c) list (Given us ∷ fed) ts h clean e = completed front m (Illegal b d c) list fed ts h clean.1 e
completed front m (Illegal b d c) list (Tok y ∷ fed) ts h clean e = completed front m (Illegal b d c) list fed ts h clean.1 e
completed front m s list fed ts h clean e = absurd h
