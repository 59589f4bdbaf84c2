-- Bytes of the files that are given to the engine.
use Rattle.std.proofs.Common.{◌≡◌, ℕ, List, [], ◌∷◌, ◌++◌, refl, sym, ap, ap₂, ◌∙◌, subst, append_assoc}
use Rattle.std.proofs.lemmas.List.{append-nil}
use Rattle.std.specs.Prelude.{◌≢◌, Bool, Option, None, Some}
use Rattle.tex_defs.specs.Places.{World}
use Rattle.tex_defs.specs.declared.Sizes.{Sizes}
use Rattle.plain_tokens.specs.Pending.{Pending, Progress, Begun, Closed}
use Rattle.plain_machine.specs.States.{State}
use Rattle.plain_machine.specs.Bounded.{FitMoves}
use Rattle.plain_machine.specs.Extended.{Rests, extended, extended_pending}
use Rattle.plain_machine.specs.Numbers.{pending_of}
use Rattle.input_state.specs.NextBytes.{with_bytes, with_first_bytes}
use Rattle.line_reader.specs.Readers as readers
use Rattle.line_reader.specs.Readers.{came_first}
use Rattle.engine_state.specs.declared.engine.Engine.{Engine}
use Rattle.engine_state.specs.Book.{Book}
use Rattle.engine_state.specs.Calls.{AllStand}
use Rattle.engine_state.specs.Stands.{SameFrames, SameStore, state_of}
use Rattle.engine_state.specs.Steps.{asks_now, wants_token}
use Rattle.engine_state.proofs.CallKept.{all_still}
use Rattle.engine_state.proofs.Storing.{sound_still}
use Rattle.stomach.specs.Ahead.{came_in, given, IsGiven, Lacks, LacksLine, LacksFirst}
use Rattle.stomach.specs.declared.innermost.Innermost.{Innermost}
use Rattle.stomach.specs.declared.innermost.Innermost.TheVariants as innermost
use Rattle.stomach.specs.Innermost.{IsInnermost}
use Rattle.stomach.specs.Ran.{Came, whole_state}

-- WHAT WAS PENDING

module _ (number : ℕ → ℕ) (bytes : List ℕ) (left : List (List ℕ)) where
  abbrev IsSame : Pending → Pending → Type 0
  IsSame p q = extended_pending (came_first bytes left) (pending_of number p) ≡ extended_pending left (pending_of number q)

  first_same : (xs : List (List ℕ)) (some : List ℕ) → (some ++ (bytes ++ readers.first_left xs)) ≡ ((some ++ bytes) ++ readers.first_left xs)
  first_same xs some = sym (append_assoc some bytes (readers.first_left xs))

  line_begun : (p : Pending) (xs : List (List ℕ)) → xs ≡ left → IsSame (record p { next = None; file = Begun }) (with_bytes bytes (record p { next = None; file = Begun }))
  line_begun p [] is = subst (λ (l : List (List ℕ)). extended_pending (came_first bytes l) (pending_of number (record p { next = None; file = Begun })) ≡ extended_pending l (pending_of number (with_bytes bytes (record p { next = None; file = Begun })))) is
      (ap (λ (rest : List ℕ). record (extended_pending [] (pending_of number (record p { next = None; file = Begun }))) { rest = rest }) (first_same [] p.rest))
  line_begun p (x ∷ xs) is = subst (λ (l : List (List ℕ)). extended_pending (came_first bytes l) (pending_of number (record p { next = None; file = Begun })) ≡ extended_pending l (pending_of number (with_bytes bytes (record p { next = None; file = Begun })))) is
      (ap (λ (rest : List ℕ). record (extended_pending (x ∷ xs) (pending_of number (record p { next = None; file = Begun }))) { rest = rest }) (first_same (x ∷ xs) p.rest))

  first_begun : (p : Pending) (some : List ℕ) (xs : List (List ℕ)) → xs ≡ left → IsSame (record p { next = Some some }) (with_first_bytes bytes (record p { next = Some some }))
  first_begun p some [] is = subst (λ (l : List (List ℕ)). extended_pending (came_first bytes l) (pending_of number (record p { next = Some some })) ≡ extended_pending l (pending_of number (with_first_bytes bytes (record p { next = Some some })))) is
      (ap (λ (next : List ℕ). record (extended_pending [] (pending_of number (record p { next = Some some }))) { next = Some next }) (first_same [] some))
  first_begun p some (x ∷ xs) is = subst (λ (l : List (List ℕ)). extended_pending (came_first bytes l) (pending_of number (record p { next = Some some })) ≡ extended_pending l (pending_of number (with_first_bytes bytes (record p { next = Some some })))) is
      (ap (λ (next : List ℕ). record (extended_pending (x ∷ xs) (pending_of number (record p { next = Some some }))) { next = Some next }) (first_same (x ∷ xs) some))

  abbrev CameSame : Pending → Type 0
  CameSame p = IsSame p (came_in p.next bytes p)

  line_same : (p : Pending) → p.next ≡ None → p.file ≡ Begun → CameSame p
  line_same p none begun = subst CameSame (ap₂ (λ (o : Option (List ℕ)) (f : Progress). record p { next = o; file = f }) (sym none) (sym begun)) (line_begun p left refl)

  next_same : (p : Pending) (some : List ℕ) → p.next ≡ Some some → CameSame p
  next_same p some is = subst CameSame (ap (λ (o : Option (List ℕ)). record p { next = o }) (sym is)) (first_begun p some left refl)

-- what isn't closed is begun
pub begun_of : (f : Progress) → f ≢ Closed → f ≡ Begun
begun_of Begun h = refl
begun_of Closed h = absurd (h refl)

-- WHERE BYTES ARE NEEDED

module _ (e : Engine) (bytes : List ℕ) (left : Rests) where
  abbrev pub before : Rests
  before = record { left = came_first bytes left.left; files = left.files }

  pending_same : Lacks e → (book : Book) → CameSame book.number bytes left.left e.input.pending
  pending_same (LacksLine none wants needs) book = line_same book.number bytes left.left e.input.pending none (begun_of e.input.pending.file needs.not_closed)
  pending_same (LacksFirst first) book = next_same book.number bytes left.left e.input.pending first.bytes first.is

  pub given_state : Lacks e → (book : Book) → extended before (state_of e book) ≡ extended left (state_of (given bytes e) book)
  given_state lacks book = ap (λ (p : Pending). record (state_of e book) { pending = p; files = left.files }) (pending_same lacks book)

  pub is_given : Lacks e → IsGiven before left e (given bytes e)
  is_given lacks = record { bytes = bytes; after = refl; same = given_state lacks }

-- PIECE BEHIND PIECE

none_came : (p : Pending) (next : Option (List ℕ)) → p.next ≡ next → p ≡ came_in next [] p
none_came p None is = ap (λ (rest : List ℕ). record p { rest = rest }) (sym (append-nil p.rest))
none_came p (Some bytes) is = ap (λ (o : Option (List ℕ)). record p { next = o }) (is ∙ ap (λ (x : List ℕ). Some x) (sym (append-nil bytes)) ∙ none_mapped p.next is) where
  none_mapped : (o : Option (List ℕ)) → o ≡ Some bytes → Some (bytes ++ []) ≡ (with_first_bytes [] (record p { next = o })).next
  none_mapped o h = ap (λ (x : Option (List ℕ)). (with_first_bytes [] (record p { next = x })).next) (sym h)

-- none of them
pub is_given_none : (e : Engine) (left : Rests) → IsGiven left left e e
is_given_none e left = record {
  bytes = [];
  after = ap (λ (p : Pending). record e { input = record e.input { pending = p } }) (none_came e.input.pending e.input.pending.next refl);
  same = λ book. refl;
}

module _ (a b : List ℕ) where
  abbrev CameTwice : Pending → Type 0
  CameTwice p = came_in (came_in p.next a p).next b (came_in p.next a p) ≡ came_in p.next (a ++ b) p

  came_twice : (p : Pending) (next : Option (List ℕ)) → p.next ≡ next → CameTwice p
  came_twice p None is = subst CameTwice (ap (λ (o : Option (List ℕ)). record p { next = o }) (sym is)) (ap (λ (rest : List ℕ). record p { next = None; rest = rest }) (append_assoc p.rest a b))
  came_twice p (Some bytes) is = subst CameTwice (ap (λ (o : Option (List ℕ)). record p { next = o }) (sym is)) (ap (λ (x : List ℕ). record p { next = Some x }) (append_assoc bytes a b))

-- and then more of them
pub is_given_more : (e e' e'' : Engine) (all mid left : Rests) → IsGiven all mid e e' → IsGiven mid left e' e'' → IsGiven all left e e''
is_given_more e e' e'' all mid left a b = record {
  bytes = a.bytes ++ b.bytes;
  after = b.after ∙ ap (given b.bytes) a.after ∙ ap (λ (p : Pending). record e { input = record e.input { pending = p } }) (came_twice a.bytes b.bytes e.input.pending e.input.pending.next refl);
  same = λ book. a.same book ∙ b.same book;
}

-- WHAT STAYS

module _ (sizes : Sizes) (bytes : List ℕ) where
  given_store : (e : Engine) (next : Option (List ℕ)) → SameStore e.input (record e.input { pending = came_in next bytes e.input.pending })
  given_store e None = record { sizes = refl; groups = refl; closing = refl; ending = refl; puts = λ n h. h; lists = record { tokens = λ n h. refl } }
  given_store e (Some more) = record { sizes = refl; groups = refl; closing = refl; ending = refl; puts = λ n h. h; lists = record { tokens = λ n h. refl } }

  given_frames : (e : Engine) → SameFrames e (given bytes e)
  given_frames e = record { readings = refl; lists = refl; call = refl }

  given_stands : (e : Engine) (book : Book) → AllStand sizes e book → AllStand sizes (given bytes e) book
  given_stands e book h =
      let store = given_store e e.input.pending.next in
      all_still sizes e (given bytes e) book (given_frames e) store (sound_still sizes e (given bytes e) book.number book.all_lists refl refl refl refl refl store h.sound) h.idle h

module _ (sizes : Sizes) (all left : Rests) (e e' : Engine) (is : IsGiven all left e e') where
  pub stands_given : (book : Book) → AllStand sizes e book → AllStand sizes e' book
  stands_given book h = subst (λ (x : Engine). AllStand sizes x book) (sym is.after) (given_stands sizes is.bytes e book h)

  pub state_given : (book : Book) → whole_state all e book ≡ whole_state left e' book
  state_given book = is.same book

  -- the machine has come to where the engine is then
  pub came_given : (s : State) (w w' : World) (k : ℕ) → Came sizes s e all w w' k → Came sizes s e' left w w' k
  came_given s w w' k came = record {
    ms = came.ms;
    book' = came.book';
    stands = stands_given came.book' came.stands;
    moves = subst (λ (t : State). FitMoves sizes s came.ms t) (state_given came.book') came.moves;
    count = came.count;
    written = came.written;
  }

-- WHAT THE INNERMOST READING ASKS FOR is as before

innermost_now : (bytes : List ℕ) (e : Engine) (i : Innermost) → IsInnermost e i → IsInnermost (given bytes e) i
innermost_now bytes e (innermost.Call c) h = h
innermost_now bytes e (innermost.Frame a) h = (h.0, record { asks = h.1.asks; stands = h.1.stands; found = h.1.found })

pub innermost_given : (all left : Rests) (e e' : Engine) → IsGiven all left e e' → (i : Innermost) → IsInnermost e i → IsInnermost e' i
innermost_given all left e e' is i h = subst (λ (x : Engine). IsInnermost x i) (sym is.after) (innermost_now is.bytes e i h)

wants_now : (bytes : List ℕ) (e : Engine) (b : Bool) → b ≡ wants_token (asks_now e) → b ≡ wants_token (asks_now (given bytes e))
wants_now bytes e b h = h

-- and whether a token is wanted
pub wants_given : (all left : Rests) (e e' : Engine) → IsGiven all left e e' → (b : Bool) → b ≡ wants_token (asks_now e) → b ≡ wants_token (asks_now e')
wants_given all left e e' is b h = subst (λ (x : Engine). b ≡ wants_token (asks_now x)) (sym is.after) (wants_now is.bytes e b h)
