-- A partial match, token by token.
use Rattle.std.proofs.Common.{zero, suc, ◌≡◌, ◌≢◌, ℕ, ◌+◌, ◌-◌, ◌≤◌, List, [], ◌∷◌, ◌++◌, length, take, drop, refl, sym, ap, subst, ◌∙◌, arith, Bool, true, false, ◌&&◌, append_assoc}
use Rattle.std.specs.Prelude.{◌==◌, if◌then◌else◌}
use Rattle.std.proofs.lemmas.Bool.{eq-eqb, ne_eqb}
use Rattle.std.proofs.lemmas.List.{append-nil}
use Rattle.tex_defs.specs.declared.Token.{Token}
use Rattle.plain_tokens.specs.Arguments.{same, is_begin, is_end, open_behind, is_prefix, partial, unmatched}
use Rattle.macro_call.proofs.ArgumentTokens.{same_refl}

-- one token more of a front that is compared with the delimiter
pub prefix_step : (k n : ℕ) (ps qs met wanted : List Token) (a b x : Token) → k ≡ n + 1 → ps ≡ a ∷ met → qs ≡ b ∷ wanted →
    is_prefix (take k ps ++ x ∷ []) qs ≡ (same a b && is_prefix (take n met ++ x ∷ []) wanted)
prefix_step k n ps qs met wanted a b x e p q =
    let s : k ≡ suc n = omega arith in
    rw (s, p, q) refl

pub prefix_fails : (k n : ℕ) (ps qs met wanted : List Token) (a b x : Token) (r : Bool) → k ≡ n + 1 → ps ≡ a ∷ met → qs ≡ b ∷ wanted → r ≡ same a b → r ≡ false →
    false ≡ is_prefix (take k ps ++ x ∷ []) qs
prefix_fails k n ps qs met wanted a b x r e p q is fails =
    let f : same a b ≡ false = sym is ∙ fails in
    rw (prefix_step k n ps qs met wanted a b x e p q, f) refl

pub prefix_goes_on : (k n : ℕ) (ps qs met wanted : List Token) (a b x : Token) (r : Bool) → k ≡ n + 1 → ps ≡ a ∷ met → qs ≡ b ∷ wanted → r ≡ same a b → r ≡ true →
    is_prefix (take n met ++ x ∷ []) wanted ≡ is_prefix (take k ps ++ x ∷ []) qs
prefix_goes_on k n ps qs met wanted a b x r e p q is holds =
    let f : same a b ≡ true = sym is ∙ holds in
    rw (prefix_step k n ps qs met wanted a b x e p q, f) refl

-- behind m tokens of the delimiter x fits exactly where it is the next one
pub prefix_next : (m : ℕ) (ds rest : List Token) (d x : Token) → drop m ds ≡ d ∷ rest → is_prefix (take m ds ++ x ∷ []) ds ≡ same x d
prefix_next zero [] rest d x e = absurd (omega (arith, ap length e))
prefix_next zero (y ∷ ys) rest d x e = ap (λ (l : List Token). is_prefix (x ∷ []) l) e ∙ alone (same x d)
  where
    alone : (b : Bool) → (b && true) ≡ b
    alone true = refl
    alone false = refl
prefix_next (suc m) [] rest d x e = absurd (omega (arith, ap length e))
prefix_next (suc m) (y ∷ ys) rest d x e =
    let s : same y y ≡ true = same_refl y in
    rw s (prefix_next m ys rest d x e)

-- the first i tokens of a list are no part of its partial match, and `cur` is left, in front of which `groups` groups are groups
pub record IsPast (ds whole : List Token) (depth i groups : ℕ) (cur : List Token) : Type 0 where
  pub left : drop i whole ≡ cur
  pub part : partial ds groups cur ≡ partial ds depth whole
  pub rest : take i whole ++ unmatched ds groups cur ≡ unmatched ds depth whole

pub past_none : (ds whole : List Token) (depth : ℕ) → IsPast ds whole depth 0 depth whole
past_none ds whole depth = record { left = refl; part = refl; rest = refl }

-- the match is all that is left
pub past_stops : (ds whole : List Token) (depth i groups : ℕ) (cur : List Token) → IsPast ds whole depth i groups cur → ((groups == 0) && is_prefix cur ds) ≡ true →
    (partial ds depth whole ≡ drop i whole) × (unmatched ds depth whole ≡ take i whole)
past_stops ds whole depth i groups [] past h = (sym past.part ∙ sym past.left, sym past.rest ∙ append-nil (take i whole))
past_stops ds whole depth i groups (y ∷ ys) past h =
    let p : partial ds groups (y ∷ ys) ≡ y ∷ ys = rw h refl in
    let u : unmatched ds groups (y ∷ ys) ≡ [] = rw h refl in
    (sym past.part ∙ p ∙ sym past.left, sym past.rest ∙ ap (λ (l : List Token). take i whole ++ l) u ∙ append-nil (take i whole))

pub take_on : (xs : List Token) (i : ℕ) (y : Token) (ys : List Token) → drop i xs ≡ y ∷ ys → (drop (i + 1) xs ≡ ys) × (take (i + 1) xs ≡ take i xs ++ y ∷ [])
take_on [] zero y ys h = absurd (omega (arith, ap length h))
take_on [] (suc i) y ys h = absurd (omega (arith, ap length h))
take_on (x ∷ xs) zero y ys h = (ap (drop 1) h, ap (take 1) h)
take_on (x ∷ xs) (suc i) y ys h =
    let e : suc (i + 1) ≡ suc i + 1 = omega arith in
    let (p, q) = take_on xs i y ys h in
    (subst (λ (n : ℕ). drop n (x ∷ xs) ≡ ys) e p, subst (λ (n : ℕ). take n (x ∷ xs) ≡ take (suc i) (x ∷ xs) ++ y ∷ []) e (ap (λ (l : List Token). x ∷ l) q))

-- no match begins here
pub past_on : (ds whole : List Token) (depth i groups : ℕ) (cur : List Token) (y : Token) (ys : List Token) → IsPast ds whole depth i groups cur → cur ≡ y ∷ ys → ((groups == 0) && is_prefix cur ds) ≡ false →
    IsPast ds whole depth (i + 1) (open_behind groups y) ys
past_on ds whole depth i groups cur y ys past e fails =
    let h : ((groups == 0) && is_prefix (y ∷ ys) ds) ≡ false = ap (λ (l : List Token). (groups == 0) && is_prefix l ds) (sym e) ∙ fails in
    let (a, b) = take_on whole i y ys (past.left ∙ e) in
    let p : partial ds groups (y ∷ ys) ≡ partial ds (open_behind groups y) ys = rw h refl in
    let u : unmatched ds groups (y ∷ ys) ≡ y ∷ unmatched ds (open_behind groups y) ys = rw h refl in
    record {
      left = a;
      part = sym p ∙ ap (partial ds groups) (sym e) ∙ past.part;
      rest = ap (λ (l : List Token). l ++ unmatched ds (open_behind groups y) ys) b ∙ append_assoc (take i whole) (y ∷ []) (unmatched ds (open_behind groups y) ys)
          ∙ ap (λ (l : List Token). take i whole ++ l) (sym u) ∙ ap (λ (l : List Token). take i whole ++ unmatched ds groups l) (sym e) ∙ past.rest;
    }

-- nothing matches
pub past_all : (ds whole : List Token) (depth i groups : ℕ) → IsPast ds whole depth i groups [] → (partial ds depth whole ≡ drop i whole) × (unmatched ds depth whole ≡ take i whole)
past_all ds whole depth i groups past = (sym past.part ∙ sym past.left, sym past.rest ∙ append-nil (take i whole))

pub take_head : (k n : ℕ) (ps met : List Token) (a x : Token) → k ≡ n + 1 → ps ≡ a ∷ met → take k ps ++ x ∷ [] ≡ a ∷ take n met ++ x ∷ []
take_head k n ps met a x e p =
    let s : k ≡ suc n = omega arith in
    rw (s, p) refl

pub here : (groups : ℕ) (b : Bool) → groups ≡ 0 → b ≡ true → ((groups == 0) && b) ≡ true
here groups b z h = let g : (groups == 0) ≡ true = eq-eqb groups 0 z in rw (g, h) refl

pub not_inside : (groups : ℕ) (b : Bool) → groups ≢ 0 → ((groups == 0) && b) ≡ false
not_inside groups b z = let g : (groups == 0) ≡ false = ne_eqb groups 0 z in rw g refl

pub not_fitting : (groups : ℕ) (b : Bool) → b ≡ false → ((groups == 0) && b) ≡ false
not_fitting groups b h = rw h (no (groups == 0))
  where
    no : (c : Bool) → (c && false) ≡ false
    no true = refl
    no false = refl

pub behind_bound : (n : ℕ) (x : Token) → open_behind n x ≤ n + 1
behind_bound n x = by (is_begin x) (is_end x)
  where
    by : (b e : Bool) → (if b then n + 1 else if e then n - 1 else n) ≤ n + 1
    by true e = omega arith
    by false true = omega arith
    by false false = omega arith

pub past_next : (ds whole : List Token) (depth i groups after : ℕ) (cur : List Token) (y : Token) (ys : List Token) → after ≡ open_behind groups y → IsPast ds whole depth i groups cur → cur ≡ y ∷ ys → ((groups == 0) && is_prefix cur ds) ≡ false →
    IsPast ds whole depth (i + 1) after ys
past_next ds whole depth i groups after cur y ys a past e fails = subst (λ (n : ℕ). IsPast ds whole depth (i + 1) n ys) (sym a) (past_on ds whole depth i groups cur y ys past e fails)

-- a token behind no match, which begins none: nothing is matched then
pub first_fails : (ds : List Token) (matched depth : ℕ) (x : Token) → matched ≡ 0 → ((depth == 0) && is_prefix (take matched ds ++ x ∷ []) ds) ≡ false →
    (partial ds depth (take matched ds ++ x ∷ []) ≡ drop 1 (take matched ds ++ x ∷ [])) × (unmatched ds depth (take matched ds ++ x ∷ []) ≡ take 1 (take matched ds ++ x ∷ []))
first_fails ds zero depth x none fails = (rw fails refl, rw fails refl)
first_fails ds (suc n) depth x none fails = absurd (omega (arith, none))
