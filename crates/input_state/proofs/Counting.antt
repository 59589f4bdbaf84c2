-- Where each list is a macro's or stands once among some numbers, its words are those of what is held.
use Rattle.std.proofs.Common.{zero, suc, ◌≡◌, ℕ, ◌+◌, ◌<◌, ◌≤◌, List, [], ◌∷◌, ◌++◌, Option, None, Some, cond, inl, inr, refl, sym, ap, ◌∙◌, arith}
use Rattle.std.specs.Prelude.{sum_by, slice_set, Bool, true, false, ◌||◌, if◌then◌else◌}
use Rattle.std.proofs.lemmas.Bool.{ne_eqb, cases_eq}
use Rattle.std.proofs.lemmas.List.{get_or-set_same, get_or-set_other}
use Rattle.std.proofs.lemmas.List.Sums.{sum_by-cons, sum_by-set, sum_by-append}
use Rattle.plain_tokens.specs.Puts.{Put}
use Rattle.plain_tokens.specs.Tables.{list_words}
use Rattle.equivalents.specs.Holding.{shared_words}
use Rattle.token_lists.specs.Table.{Entry, entry_at, words, words_of, tokens_at, tokens_of, holders_at, holders_of}
use Rattle.token_lists.specs.Accounts.{holds}
use Rattle.token_lists.proofs.Counts.{held_below}
use Rattle.input_stack.specs.Pending.{times}
use Rattle.input_stack.proofs.Kept.{holds_itself}
use Rattle.input_state.specs.Macros.{is_shared}
use Rattle.input_state.specs.HeldViews.{texts}

-- 1 where there is one
abbrev pub some : ℕ → ℕ
some zero = 0
some (suc n) = 1

pub some_one : (n : ℕ) → 0 < n → some n ≡ 1
some_one zero lt = absurd (omega (arith, lt))
some_one (suc n) lt = refl

pub some_none : (n : ℕ) → n ≡ 0 → some n ≡ 0
some_none n e = ap some e

pub one_some : (n : ℕ) → some n ≡ 1 → 0 < n
one_some zero e = absurd (omega (arith, e))
one_some (suc n) e = omega arith

pub none_some : (n : ℕ) → some n ≡ 0 → n ≡ 0
none_some zero e = refl
none_some (suc n) e = absurd (omega (arith, e))

pub some_few : (n : ℕ) → some n ≤ 1
some_few zero = omega arith
some_few (suc n) = omega arith

pub is_one : (b : Bool) → ◌≡◌ {A = ℕ} (cond b 1 0) 1 → b ≡ true
is_one true e = refl
is_one false e = absurd (omega (arith, e))

pub is_none : (b : Bool) → ◌≡◌ {A = ℕ} (cond b 1 0) 0 → b ≡ false
is_none true e = absurd (omega (arith, e))
is_none false e = refl

pub bit : (b : Bool) → ◌≡◌ {A = ℕ} (cond b 1 0) (some (cond b 1 0))
bit true = refl
bit false = refl

pub or_some : (a b : Bool) (x y : ℕ) → cond a 1 0 ≡ some x → cond b 1 0 ≡ some y → cond (a || b) 1 0 ≡ some (x + y)
or_some true b x y e f = sym (some_one (x + y) (omega (arith, one_some x (sym e))))
or_some false true x y e f = sym (some_one (x + y) (omega (arith, one_some y (sym f))))
or_some false false x y e f = sym (some_none (x + y) (omega (arith, none_some x (sym e), none_some y (sym f))))

pub holds_other : (n h : ℕ) → (n ≡ h → ⊥) → holds n h ≡ 0
holds_other n h ne = ap {B = ℕ} (λ (b : Bool). cond b 1 0) (ne_eqb n h ne)

-- the words of the list of a number
abbrev pub words_at : List (Option Entry) → ℕ → ℕ
words_at table n = list_words (tokens_at table n)

pub times_cons : (h n : ℕ) (ns : List ℕ) → times h (n ∷ ns) ≡ holds n h + times h ns
times_cons h n ns = sum_by-cons (λ (k : ℕ). holds k h) n ns

pub times_append : (h : ℕ) (ms ns : List ℕ) → times h (ms ++ ns) ≡ times h ms + times h ns
times_append h ms ns = sum_by-append (λ (k : ℕ). holds k h) ms ns

-- MACROS ALONE

entry_words : (b : Bool) (o : Option Entry) → some (holders_of o) ≡ cond b 1 0 → words_of o ≡ (if b then list_words (tokens_of o) else 0)
entry_words true None e = absurd (omega (arith, e))
entry_words true (Some x) e = refl
entry_words false None e = refl
entry_words false (Some x) e = absurd (omega (arith, e, some_one (x.others + 1) (omega arith)))

module _ (ms : List ℕ) (ps : List Put) where
  abbrev pub mark : ℕ → ℕ
  mark k = cond (is_shared k ms ps) 1 0

  unmarked : (k : ℕ) → mark k ≡ 0 → is_shared k ms ps ≡ false
  unmarked k e = is_none (is_shared k ms ps) e

  macros_counted : (n : ℕ) (table : List (Option Entry)) → ((h : ℕ) → some (holders_at table h) ≡ mark (n + h)) → words table ≡ shared_words n ms ps (texts table)
  macros_counted n [] held = refl
  macros_counted n (o ∷ os) held =
      let first : n + 0 ≡ n = omega arith in
      let here : words_of o ≡ (if is_shared n ms ps then list_words (tokens_of o) else 0) = entry_words (is_shared n ms ps) o (held 0 ∙ ap mark first) in
      let next : (h : ℕ) → n + suc h ≡ suc n + h = λ h. omega arith in
      let rest : words os ≡ shared_words (suc n) ms ps (texts os) = macros_counted (suc n) os (λ h. held (suc h) ∙ ap mark (next h)) in
      omega (arith, sum_by-cons words_of o os, here, rest)

  -- a list goes that is no macro's
  macros_stay : (n : ℕ) (table : List (Option Entry)) (i : ℕ) → is_shared (n + i) ms ps ≡ false → shared_words n ms ps (texts (slice_set table i None)) ≡ shared_words n ms ps (texts table)
  macros_stay n [] i other = refl
  macros_stay n (o ∷ os) zero other =
      let first : n + 0 ≡ n = omega arith in
      let here : is_shared n ms ps ≡ false = sym (ap (λ (k : ℕ). is_shared k ms ps) first) ∙ other in
      let rest = shared_words (suc n) ms ps (texts os) in
      ap (λ (b : Bool). (if b then list_words [] else 0) + rest) here ∙ sym (ap (λ (b : Bool). (if b then list_words (tokens_of o) else 0) + rest) here)
  macros_stay n (o ∷ os) (suc i) other =
      let next : suc n + i ≡ n + suc i = omega arith in
      ap (λ (k : ℕ). (if is_shared n ms ps then list_words (tokens_of o) else 0) + k) (macros_stay (suc n) os i (ap (λ (k : ℕ). is_shared k ms ps) next ∙ other))

  -- THE OTHER LISTS

  known_words : (o : Option Entry) → 0 < holders_of o → words_of o ≡ list_words (tokens_of o)
  known_words None held = absurd (omega (arith, held))
  known_words (Some e) held = refl

  sum_stays : (f g : ℕ → ℕ) (ns : List ℕ) → ((k : ℕ) → 0 < times k ns → f k ≡ g k) → sum_by f ns ≡ sum_by g ns
  sum_stays f g [] same = refl
  sum_stays f g (n ∷ ns) same =
      let here : f n ≡ g n = same n (omega (arith, holds_itself n, times_cons n n ns)) in
      let rest : sum_by f ns ≡ sum_by g ns = sum_stays f g ns (λ k more. same k (omega (arith, more, times_cons k n ns))) in
      omega (arith, here, rest, sum_by-cons f n ns, sum_by-cons g n ns)

  other_tokens : (table : List (Option Entry)) (n k : ℕ) → (k ≡ n → ⊥) → tokens_at (slice_set table n None) k ≡ tokens_at table k
  other_tokens table n k ne = ap tokens_of (get_or-set_other table n k None None ne)

  -- the rest of the count, once the first of these lists is taken out
  left : (table : List (Option Entry)) (n : ℕ) (ns : List ℕ) → ((h : ℕ) → some (holders_at table h) ≡ mark h + times h (n ∷ ns)) → holders_at (slice_set table n None) n ≡ 0 → mark n ≡ 0 → times n ns ≡ 0 → (h : ℕ) → some (holders_at (slice_set table n None) h) ≡ mark h + times h ns
  left table n ns held gone no_mark last h = elim (cases_eq h n) [
    | inl is ↦
        let here : some (holders_at (slice_set table n None) h) ≡ 0 = some_none _ (ap (holders_at (slice_set table n None)) is ∙ gone) in
        omega (arith, here, ap mark is, no_mark, ap (λ (k : ℕ). times k ns) is, last)
    | inr other ↦
        let here : some (holders_at (slice_set table n None) h) ≡ some (holders_at table h) = ap (λ (o : Option Entry). some (holders_of o)) (get_or-set_other table n h None None other) in
        let apart : holds n h ≡ 0 = holds_other n h (λ e. other (sym e)) in
        omega (arith, here, held h, times_cons h n ns, apart)
  ]

  -- Each list is a macro's, or stands once among these numbers.
  pub words_counted : (table : List (Option Entry)) (ns : List ℕ) → ((h : ℕ) → some (holders_at table h) ≡ mark h + times h ns) → words table ≡ shared_words 0 ms ps (texts table) + sum_by (words_at table) ns
  words_counted table [] held =
      let here : (h : ℕ) → h ≡ 0 + h = λ h. omega arith in
      let all = macros_counted 0 table (λ h. omega (arith, held h, ap mark (here h))) in
      omega (arith, all)
  words_counted table (n ∷ ns) held =
      let next : List (Option Entry) = slice_set table n None in
      let own : holds n n ≡ 1 = holds_itself n in
      let here = held n in
      let first = times_cons n n ns in
      let few : some (holders_at table n) ≤ 1 = some_few (holders_at table n) in
      let no_mark : mark n ≡ 0 = omega (arith, here, first, own, few) in
      let last : times n ns ≡ 0 = omega (arith, here, first, own, few) in
      let there : 0 < holders_at table n = one_some (holders_at table n) (omega (arith, here, first, own, few)) in
      let below = held_below table n there in
      let gone : holders_at next n ≡ 0 = ap holders_of (get_or-set_same table n None None below) in
      let rest : words next ≡ shared_words 0 ms ps (texts next) + sum_by (words_at next) ns = words_counted next ns (left table n ns held gone no_mark last) in
      let less = sum_by-set words_of table n None None below in
      let known : words_of (entry_at table n) ≡ words_at table n = known_words (entry_at table n) there in
      let apart : (k : ℕ) → 0 < times k ns → k ≡ n → ⊥ = λ k more e. omega (arith, more, last, ap (λ (j : ℕ). times j ns) e) in
      let same : sum_by (words_at next) ns ≡ sum_by (words_at table) ns = sum_stays (words_at next) (words_at table) ns (λ k more. ap list_words (other_tokens table n k (apart k more))) in
      let start : 0 + n ≡ n = omega arith in
      let stays : shared_words 0 ms ps (texts next) ≡ shared_words 0 ms ps (texts table) = macros_stay 0 table n (ap (λ (k : ℕ). is_shared k ms ps) start ∙ unmarked n no_mark) in
      omega (arith, less, known, rest, same, stays, sum_by-cons (words_at table) n ns)
