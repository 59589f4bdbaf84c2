-- What a window's bytes make of what stands behind the lines.
use Rattle.std.proofs.Common.{◌≡◌, ℕ, ◌+◌, ◌-◌, ◌<◌, ◌≤◌, Bool, false, true, List, [], ◌∷◌, ◌++◌, length, take, drop, set, get_or, refl, ap, sym, ◌∙◌, subst, arith}
use Rattle.std.specs.Prelude.{Option, None, Some, Result, Ok, Err, IfOk, OnErr}
use Rattle.std.proofs.lemmas.List.{length-append, take_rest}
use Rattle.std.proofs.lemmas.Grind.{common_steps}
use Rattle.plain_tokens.specs.Lines.{has_feed, before_feed, behind_feed, without_last}
use Rattle.world_io.specs.declared.traits.Fault.{Fault}
use Rattle.world_io.specs.Contents.{FilesTold, IsAtEnd}
use Rattle.line_reader.specs.Ahead.{Ahead, IsWindowAt, is_begun, ahead_of, with_ahead}
use Rattle.line_reader.specs.OpenLines.{OpenLines, used, part_read}
use Rattle.line_reader.specs.Cuts.{lines_of, HasNoFeed, IsSound}
use Rattle.line_reader.specs.Reading.{CameIn}
use Rattle.line_reader.proofs.AheadOf.{ahead-with, with-same}
use Rattle.line_reader.proofs.LineEnds.{without_short}
use Rattle.line_reader.proofs.Views.{grown_is, grown_sound, tail_view, size_view, used_view, length_tail}

-- what is no value at all is none
pub is_none : {T : Type 0} (o : Option T) → ((x : T) → o ≡ Some x → ⊥) → o ≡ None
is_none None h = refl
is_none (Some x) h = absurd (h x refl)

before_none : (ys : List ℕ) → has_feed (before_feed ys) ≡ false
before_none [] = refl
before_none (y ∷ ys) = let h : has_feed (before_feed ys) ≡ false = before_none ys in grind (arith, common_steps)

pub none_more : (xs ys : List ℕ) → has_feed xs ≡ false → has_feed (xs ++ before_feed ys) ≡ false
none_more [] ys h = before_none ys
none_more (x ∷ xs) ys h = grind (arith, common_steps, none_more xs ys)

module _ (id : ℕ) (ahead : List Ahead) (place : ℕ) (s : IsWindowAt id ahead place) where
  pub bytes_at : (w : Ahead) → w ≡ get_or ahead place w → w.bytes ≡ ahead_of id ahead
  bytes_at w e = ap (λ (a : Ahead). a.bytes) e ∙ s.bytes w

  pub reader_at : (w : Ahead) → w ≡ get_or ahead place w → w.reader ≡ id
  reader_at w e = ap (λ (a : Ahead). a.reader) e ∙ s.reader w

  pub set_at : (w : Ahead) → w.reader ≡ id → set ahead place w ≡ with_ahead id w.bytes ahead
  set_at w e = ap (λ (r : ℕ). set ahead place (record { reader = r; bytes = w.bytes })) e ∙ s.changed w.bytes

  pub ahead_set : (w : Ahead) → w.reader ≡ id → ahead_of id (set ahead place w) ≡ w.bytes
  ahead_set w e = ap (ahead_of id) (set_at w e) ∙ ahead-with id w.bytes ahead

  pub length_set : (w : Ahead) → length (set ahead place w) ≡ length ahead
  length_set w = grind (arith, common_steps)

module _ (b : OpenLines) (bytes starts : List ℕ) (behind : ℕ) (part_of : Option ℕ) (ahead : List Ahead) (size levels byte_room start_room window_room : ℕ)
    (view : lines_of bytes starts behind part_of ahead size levels ≡ b) (s : IsSound bytes starts behind part_of ahead size levels byte_room start_room window_room) where
  ahead_view : b.ahead ≡ ahead
  ahead_view = ap (λ (x : OpenLines). x.ahead) (sym view)

  gathered_here : (id : ℕ) → part_of ≡ Some id → lines_of (bytes ++ before_feed (ahead_of id ahead)) starts behind part_of (with_ahead id (behind_feed (ahead_of id ahead)) ahead) size levels
      ≡ part_read id (b.tail ++ before_feed (ahead_of id ahead)) (behind_feed (ahead_of id ahead)) (record b { ahead = ahead })
  gathered_here id e =
      grown_is b bytes starts behind part_of ahead size levels byte_room start_room window_room view s (before_feed (ahead_of id ahead)) part_of (with_ahead id (behind_feed (ahead_of id ahead)) ahead)
      ∙ ap (λ (p : Option ℕ). record b { tail = b.tail ++ before_feed (ahead_of id ahead); part_of = p; ahead = with_ahead id (behind_feed (ahead_of id ahead)) ahead }) e

  pub gathered_is : (id : ℕ) → part_of ≡ Some id → lines_of (bytes ++ before_feed (ahead_of id ahead)) starts behind part_of (with_ahead id (behind_feed (ahead_of id ahead)) ahead) size levels
      ≡ part_read id (b.tail ++ before_feed (ahead_of id b.ahead)) (behind_feed (ahead_of id b.ahead)) b
  gathered_is id e =
      gathered_here id e ∙ ap (λ (a : List Ahead). part_read id (b.tail ++ before_feed (ahead_of id a)) (behind_feed (ahead_of id a)) (record b { ahead = a })) (sym ahead_view)

  pub gathered_sound : (id : ℕ) (line : List ℕ) (ws : List Ahead) (byte_room' : ℕ) → part_of ≡ Some id → line ≡ bytes ++ before_feed (ahead_of id ahead) → length ws ≤ length ahead →
      used b + (length (without_last 13 (b.tail ++ before_feed (ahead_of id b.ahead))) + 1) ≤ b.buffer_size → byte_room ≤ byte_room' →
      IsSound line starts behind part_of ws size levels byte_room' start_room window_room
  gathered_sound id line ws byte_room' e is fewer room more =
      let front : List ℕ = before_feed (ahead_of id ahead) in
      let same : before_feed (ahead_of id b.ahead) ≡ front = ap (λ (a : List Ahead). before_feed (ahead_of id a)) ahead_view in
      let few : length (b.tail ++ front) ≤ length (without_last 13 (b.tail ++ front)) + 1 = without_short 13 (b.tail ++ front) in
      let room' : used b + (length (without_last 13 (b.tail ++ front)) + 1) ≤ b.buffer_size = subst (λ (xs : List ℕ). used b + (length (without_last 13 (b.tail ++ xs)) + 1) ≤ b.buffer_size) same room in
      let none : HasNoFeed (Some id) b.tail = subst (λ (p : Option ℕ). HasNoFeed p b.tail) e (subst (HasNoFeed part_of) (sym (tail_view b bytes starts behind part_of ahead size levels byte_room start_room window_room view s)) s.no_feed) in
      let none' : HasNoFeed part_of (b.tail ++ front) = subst (λ (p : Option ℕ). HasNoFeed p (b.tail ++ front)) (sym e) (none_more b.tail (ahead_of id ahead) none) in
      subst (λ (xs : List ℕ). IsSound xs starts behind part_of ws size levels byte_room' start_room window_room) (sym is)
      (grown_sound b bytes starts behind part_of ahead size levels byte_room start_room window_room view s front part_of ws byte_room' window_room (omega (arith, room', few, length-append b.tail front)) none' (omega (arith, fewer, s.readers_fit)) more (omega arith))

  pub sure_is : (id sure : ℕ) (bs m : List ℕ) → bs ≡ bytes → m ≡ ahead_of id ahead → sure ≡ length (without_last 13 (take (length bs - behind) (drop behind bs) ++ before_feed m)) →
      sure ≡ length (without_last 13 (b.tail ++ before_feed (ahead_of id b.ahead)))
  sure_is id sure bs m e f h =
      let t : take (length bs - behind) (drop behind bs) ≡ b.tail = ap (λ (xs : List ℕ). take (length xs - behind) (drop behind xs)) e ∙ take_rest bytes behind ∙ sym (tail_view b bytes starts behind part_of ahead size levels byte_room start_room window_room view s) in
      h ∙ ap (λ (xs : List ℕ). length (without_last 13 (xs ++ before_feed m))) t ∙ ap (λ (xs : List ℕ). length (without_last 13 (b.tail ++ before_feed xs))) (f ∙ ap (ahead_of id) (sym ahead_view))

  -- there is room in memory for the bytes of a line that fits
  pub byte_fits : (id count sure : ℕ) → length (before_feed (ahead_of id b.ahead)) ≡ count → sure ≡ length (without_last 13 (b.tail ++ before_feed (ahead_of id b.ahead))) → used b + (sure + 1) ≤ b.buffer_size → length bytes + count ≤ byte_room
  byte_fits id count sure n e fits =
      let a : List ℕ = before_feed (ahead_of id b.ahead) in
      omega (
        arith,
        n,
        e,
        fits,
        without_short 13 (b.tail ++ a),
        length-append b.tail a,
        length_tail b bytes starts behind part_of ahead size levels byte_room start_room window_room view s,
        used_view b bytes starts behind part_of ahead size levels byte_room start_room window_room view s,
        size_view b bytes starts behind part_of ahead size levels byte_room start_room window_room view s,
        s.bytes_reserved,
      )

  pub ahead_same : (id : ℕ) → ahead_of id b.ahead ≡ ahead_of id ahead
  ahead_same id = ap (ahead_of id) ahead_view

  pub read_is : (id place : ℕ) (w : Ahead) → IsWindowAt id ahead place → w.reader ≡ id → lines_of bytes starts behind part_of (set ahead place w) size levels ≡ record b { ahead = with_ahead id (ahead_of id (set ahead place w)) b.ahead }
  read_is id place w at e =
      let here : (record b { ahead = set ahead place w }) ≡ record b { ahead = with_ahead id (ahead_of id (set ahead place w)) ahead } = ap (λ (a : List Ahead). record b { ahead = a }) (set_at id ahead place at w e ∙ ap (λ (xs : List ℕ). with_ahead id xs ahead) (sym (ahead_set id ahead place at w e))) in
      ap (λ (x : OpenLines). record x { ahead = set ahead place w }) view ∙ here ∙ ap (λ (a : List Ahead). record b { ahead = with_ahead id (ahead_of id (set ahead place w)) a }) (sym ahead_view)

  -- a window that stays empty
  pub read_none : (id place : ℕ) (w : Ahead) → IsWindowAt id ahead place → w.reader ≡ id → is_begun id b.ahead ≡ true → ahead_of id b.ahead ≡ [] → w.bytes ≡ [] → lines_of bytes starts behind part_of (set ahead place w) size levels ≡ b
  read_none id place w at e begun none empty =
      let same : with_ahead id [] b.ahead ≡ b.ahead = ap (λ (xs : List ℕ). with_ahead id xs b.ahead) (sym none) ∙ with-same id b.ahead begun in
      read_is id place w at e ∙ ap (λ (xs : List ℕ). record b { ahead = with_ahead id xs b.ahead }) (ahead_set id ahead place at w e ∙ empty) ∙ ap (λ (a : List Ahead). record b { ahead = a }) same

-- facts about what came in, at the reader's own place
pub came_at : (r : Result Bool Fault) (f f' : FilesTold) (id reader : ℕ) (xs ys : List ℕ) → reader ≡ id → xs ≡ ys → IfOk r (λ _. CameIn reader ys f f') → IfOk r (λ _. CameIn id xs f f')
came_at r f f' id reader xs ys e is h = subst (λ (zs : List ℕ). IfOk r (λ _. CameIn id zs f f')) (sym is) (subst (λ (n : ℕ). IfOk r (λ _. CameIn n ys f f')) e h)

pub some_at : (r : Result Bool Fault) (xs ys : List ℕ) → xs ≡ ys → IfOk r (λ some. some ≡ true → 0 < length ys) → IfOk r (λ some. some ≡ true → 0 < length xs)
some_at r xs ys is h = subst (λ (zs : List ℕ). IfOk r (λ some. some ≡ true → 0 < length zs)) (sym is) h

pub none_at : (r : Result Bool Fault) (f' : FilesTold) (id reader : ℕ) (xs ys : List ℕ) → reader ≡ id → xs ≡ ys → IfOk r (λ some. some ≡ false → (ys ≡ []) × IsAtEnd (f'.rest reader)) → IfOk r (λ some. some ≡ false → (xs ≡ []) × IsAtEnd (f'.rest id))
none_at r f' id reader xs ys e is h = subst (λ (zs : List ℕ). IfOk r (λ some. some ≡ false → (zs ≡ []) × IsAtEnd (f'.rest id))) (sym is) (subst (λ (n : ℕ). IfOk r (λ some. some ≡ false → (ys ≡ []) × IsAtEnd (f'.rest n))) e h)

pub on_err : (r : Result Bool Fault) {A B : Type 0} → (A → B) → OnErr r A → OnErr r B
on_err (Ok x) f h = h
on_err (Err e) f h = f h
