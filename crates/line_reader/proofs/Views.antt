-- What each call makes of the lines, where they lie in memory as `Cuts` says.
use Rattle.std.proofs.Common.{append_assoc, ◌≡◌, ◌≢◌, ℕ, ◌+◌, ◌-◌, ◌<◌, ◌≤◌, ◌^◌, Bool, false, true, List, [], ◌∷◌, ◌++◌, length, take, drop, reverse, set, refl, ap, sym, ◌∙◌, subst, arith, inl, inr}
use Rattle.std.specs.Prelude.{Option, Some, None, is_some, MatchBool, nat_lt, if◌then◌else◌}
use Rattle.std.proofs.lemmas.List.{take-append-le, drop-append-le, length-drop, take-take, drop-take, drop_all, reverse-append, length_push, length-append, length-take-le, drop-set-add, drop-set-lt, take-set-le, take_at, drop_at, drop-drop}
use Rattle.std.proofs.Math.Seq.{take-set-lt}
use Rattle.std.proofs.lemmas.Bool.{cases_order}
use Rattle.std.proofs.lemmas.Grind.{common_steps}
use Rattle.tex_defs.specs.declared.Full.{Full}
use Rattle.tex_defs.specs.declared.Table.TheVariants.{BufferSize}
use Rattle.plain_tokens.specs.Lines.{has_feed}
use Rattle.line_reader.specs.Ahead.{Ahead, with_ahead, ahead_of}
use Rattle.line_reader.specs.OpenLines.{OpenLines, used, no_lines, line_opened, line_dropped, refusal, buffer_full, byte_spelt, name_dropped, part_dropped, tail_without, part_without, part_in, HoldsNoOther, part_for, part, innermost, first, others, line_changed}
use Rattle.line_reader.specs.Cuts.{cut, AreCut, lines_of, HasNoFeed, IsSound}
use Rattle.line_reader.proofs.AheadOf.{is_same, is_other, length-with}
use Rattle.line_reader.proofs.Cutting.{cut-same, used_is, length_line}

short : (n : ℕ) (bytes : List ℕ) → length (take n bytes) ≤ n
short n bytes = grind (arith, common_steps)

nothing_behind : (n : ℕ) (bytes : List ℕ) → drop n (take n bytes) ≡ []
nothing_behind n bytes = drop_all n (take n bytes) (short n bytes)

-- cutting what stands behind the lines off leaves the lines
pub cut-take : (bytes : List ℕ) (last : ℕ) (starts : List ℕ) → AreCut last starts → cut (take last bytes) last starts ≡ cut bytes last starts
cut-take bytes last starts are = cut-same (take last bytes) bytes last starts are (take-take last last bytes (omega arith))

cut-take-more : (bytes : List ℕ) (n last : ℕ) (starts : List ℕ) → last ≤ n → AreCut last starts → cut (take n bytes) last starts ≡ cut bytes last starts
cut-take-more bytes n last starts le are = cut-same (take n bytes) bytes last starts are (take-take last n bytes le)

pub cut-append : (bytes more : List ℕ) (last : ℕ) (starts : List ℕ) → last ≤ length bytes → AreCut last starts → cut (bytes ++ more) last starts ≡ cut bytes last starts
cut-append bytes more last starts le are = cut-same (bytes ++ more) bytes last starts are (take-append-le last bytes more le)

reverse_push : (starts : List ℕ) (s : ℕ) → reverse (starts ++ s ∷ []) ≡ s ∷ reverse starts
reverse_push starts s = reverse-append starts (s ∷ [])

new_line : (bytes : List ℕ) (behind count : ℕ) → take (behind + count - behind) (drop behind (take (behind + count) bytes)) ≡ take count (drop behind bytes)
new_line bytes behind count =
    let n : behind + count - behind ≡ count = omega arith in
    ap (λ (k : ℕ). take k (drop behind (take (behind + count) bytes))) n ∙ ap (take count) (drop-take behind count bytes) ∙ take-take count count (drop behind bytes) (omega arith)

opened_cut : (bytes starts : List ℕ) (behind count : ℕ) → AreCut behind (reverse starts) →
    cut (take (behind + count) bytes) (behind + count) (reverse (starts ++ behind ∷ [])) ≡ take count (drop behind bytes) ∷ cut bytes behind (reverse starts)
unfolding cut
opened_cut bytes starts behind count are =
    let e : cut (take (behind + count) bytes) (behind + count) (reverse (starts ++ behind ∷ [])) ≡ take (behind + count - behind) (drop behind (take (behind + count) bytes)) ∷ cut (take (behind + count) bytes) behind (reverse starts)
    = ap (cut (take (behind + count) bytes) (behind + count)) (reverse_push starts behind) in
    e ∙ ap (λ (line : List ℕ). line ∷ cut (take (behind + count) bytes) behind (reverse starts)) (new_line bytes behind count)
    ∙ ap (λ (lines : List (List ℕ)). take count (drop behind bytes) ∷ lines) (cut-take-more bytes (behind + count) behind (reverse starts) (omega arith) are)

opened_are : (starts : List ℕ) (behind count : ℕ) → AreCut behind (reverse starts) → AreCut (behind + count) (reverse (starts ++ behind ∷ []))
unfolding AreCut
opened_are starts behind count are = subst (AreCut (behind + count)) (sym (reverse_push starts behind)) (omega arith, are)

dropped_are : (starts : List ℕ) (behind start : ℕ) → AreCut behind (reverse (starts ++ start ∷ [])) → (start ≤ behind) × AreCut start (reverse starts)
unfolding AreCut
dropped_are starts behind start are = subst (AreCut behind) (reverse_push starts start) are

dropped_cut : (bytes starts : List ℕ) (behind start : ℕ) → cut bytes behind (reverse (starts ++ start ∷ [])) ≡ take (behind - start) (drop start bytes) ∷ cut bytes start (reverse starts)
unfolding cut
dropped_cut bytes starts behind start = ap (cut bytes behind) (reverse_push starts start)

pub sound_empty : (size levels byte_room start_room window_room : ℕ) → size < 2 ^ 32 → size ≤ byte_room → size ≤ start_room → levels + 16 ≤ window_room →
    IsSound [] [] 0 None [] size levels byte_room start_room window_room
unfolding AreCut
sound_empty size levels byte_room start_room window_room small b s w = record {
  are_cut = refl;
  within = omega arith;
  fits = omega arith;
  no_feed = tt;
  readers_fit = omega arith;
  small = small;
  bytes_reserved = b;
  starts_reserved = s;
  windows_reserved = w;
}

pub empty_is : (size levels : ℕ) → lines_of [] [] 0 None [] size levels ≡ no_lines size levels
unfolding cut
empty_is size levels = refl

pub no_feed_empty : (p : Option ℕ) → HasNoFeed p []
no_feed_empty None = tt
no_feed_empty (Some reader) = refl

pub empty_of : (xs : List ℕ) → length xs ≡ 0 → xs ≡ []
empty_of [] e = refl
empty_of (x ∷ xs) e = absurd (omega arith)

over : (b : OpenLines) (need : ℕ) → b.buffer_size < used b + need → refusal b need ≡ Some (buffer_full b)
over b need lt =
    let t : nat_lt b.buffer_size (used b + need) ≡ true = grind (arith, common_steps) in
    ap (λ (x : Bool). if x then Some (buffer_full b) else None) t

-- where nothing refuses there is room
pub room : (b : OpenLines) (need : ℕ) → ((full : Full) → refusal b need ≡ Some full → ⊥) → used b + need ≤ b.buffer_size
room b need none = elim (cases_order b.buffer_size (used b + need)) [
  | inl e ↦ omega arith
  | inr (inl lt) ↦ absurd (none (buffer_full b) (over b need lt))
  | inr (inr gt) ↦ omega arith
]

pub full_is : (b : OpenLines) (u n : ℕ) → u ≡ used b → b.buffer_size ≡ n → (record { table = BufferSize; used = u; size = n }) ≡ buffer_full b
full_is b u n e f = ap (λ (k : ℕ). record { table = BufferSize; used = k; size = n }) e ∙ ap (λ (k : ℕ). record { table = BufferSize; used = used b; size = k }) (sym f)

pub none_of : (o : Option ℕ) → is_some o ≡ false → o ≡ None
none_of None e = refl
none_of (Some x) e = absurd (cc)

test_so : (x : Bool) (xs : List ℕ) → (x ≡ true → 0 < length xs) → (x ≡ false → length xs ≤ 0) → MatchBool x (xs ≢ []) (xs ≡ [])
test_so true xs some none = λ e. let l : length xs ≡ 0 = ap length e in omega (arith, some refl, l)
test_so false xs some none = empty_of xs (omega (arith, none refl))

same_parts : (b : OpenLines) (t : List ℕ) (q : Option ℕ) → t ≡ b.tail → q ≡ b.part_of → (record b { tail = t; part_of = q }) ≡ b
same_parts b t q e f = ap (λ (xs : List ℕ). record b { tail = xs; part_of = q }) e ∙ ap (λ (p : Option ℕ). record b { part_of = p }) f

module _ (b : OpenLines) (bytes starts : List ℕ) (behind : ℕ) (part_of : Option ℕ) (ahead : List Ahead) (size levels byte_room start_room window_room : ℕ)
    (view : lines_of bytes starts behind part_of ahead size levels ≡ b) (s : IsSound bytes starts behind part_of ahead size levels byte_room start_room window_room) where
  pub used_view : used b ≡ behind + length starts
  used_view = ap used (sym view) ∙ used_is bytes starts behind part_of ahead size levels byte_room start_room window_room s

  pub size_view : b.buffer_size ≡ size
  size_view = ap (λ (x : OpenLines). x.buffer_size) (sym view)

  pub tail_view : b.tail ≡ drop behind bytes
  tail_view = ap (λ (x : OpenLines). x.tail) (sym view)

  pub length_tail : length b.tail + behind ≡ length bytes
  length_tail = ap (λ (xs : List ℕ). length xs + behind) tail_view ∙ omega (arith, length-drop behind bytes, s.within)

  pub refused : (need : ℕ) → size < behind + length starts + need → Some (buffer_full b) ≡ refusal b need
  refused need lt =
      let t : nat_lt b.buffer_size (used b + need) ≡ true = grind (arith, common_steps, used_view, size_view) in
      ap (λ (x : Bool). if x then Some (buffer_full b) else None) (sym t)

  pub taken : (need : ℕ) → behind + length starts + need ≤ size → None ≡ refusal b need
  taken need le =
      let f : nat_lt b.buffer_size (used b + need) ≡ false = grind (arith, common_steps, used_view, size_view) in
      ap (λ (x : Bool). if x then Some (buffer_full b) else None) (sym f)

  pub opened_is : (count : ℕ) → lines_of (take (behind + count) bytes) (starts ++ behind ∷ []) (behind + count) None ahead size levels ≡ line_opened (take count b.tail) b
  opened_is count =
      let P : OpenLines → Type 0 = λ x. lines_of (take (behind + count) bytes) (starts ++ behind ∷ []) (behind + count) None ahead size levels ≡ line_opened (take count x.tail) x in
      subst P view (rw (opened_cut bytes starts behind count s.are_cut, nothing_behind (behind + count) bytes) refl)

  pub opened_sound : (count : ℕ) (start_room' : ℕ) → count ≤ length b.tail → used b + (count + 1) ≤ b.buffer_size → start_room ≤ start_room' →
      IsSound (take (behind + count) bytes) (starts ++ behind ∷ []) (behind + count) None ahead size levels byte_room start_room' window_room
  opened_sound count start_room' within room more =
      let n : length (take (behind + count) bytes) ≡ behind + count = grind (arith, common_steps, length_tail) in
      record {
        are_cut = opened_are starts behind count s.are_cut;
        within = omega (arith, n);
        fits = omega (arith, n, length_push starts behind, room, used_view, size_view);
        no_feed = tt;
        readers_fit = s.readers_fit;
        small = s.small;
        bytes_reserved = s.bytes_reserved;
        starts_reserved = omega (arith, s.starts_reserved, more);
        windows_reserved = s.windows_reserved;
      }

  -- what stands behind the lines moves down
  moved_front : (start : ℕ) → start ≤ behind → take start (take start bytes ++ drop behind bytes) ≡ take start bytes
  moved_front start le = take_at (take start bytes) (drop behind bytes) start (length-take-le start bytes (omega (arith, le, s.within)))

  moved_tail : (start : ℕ) → start ≤ behind → drop start (take start bytes ++ drop behind bytes) ≡ drop behind bytes
  moved_tail start le = drop_at (take start bytes) (drop behind bytes) start (length-take-le start bytes (omega (arith, le, s.within)))

  pub dropped_start : (front : List ℕ) (start : ℕ) → starts ≡ front ++ start ∷ [] → start ≤ behind
  dropped_start front start e = let are : (start ≤ behind) × AreCut start (reverse front) = dropped_are front behind start (subst (λ (xs : List ℕ). AreCut behind (reverse xs)) e s.are_cut) in are.0

  pub dropped_is : (front : List ℕ) (start : ℕ) → starts ≡ front ++ start ∷ [] → lines_of (take start bytes ++ drop behind bytes) front start part_of ahead size levels ≡ line_dropped b
  dropped_is front start e =
      let are : (start ≤ behind) × AreCut start (reverse front) = dropped_are front behind start (subst (λ (xs : List ℕ). AreCut behind (reverse xs)) e s.are_cut) in
      let lines : cut bytes behind (reverse starts) ≡ take (behind - start) (drop start bytes) ∷ cut bytes start (reverse front) = ap (λ (xs : List ℕ). cut bytes behind (reverse xs)) e ∙ dropped_cut bytes front behind start in
      let lower : cut (take start bytes ++ drop behind bytes) start (reverse front) ≡ cut bytes start (reverse front) = cut-same (take start bytes ++ drop behind bytes) bytes start (reverse front) are.1 (moved_front start are.0) in
      let P : OpenLines → Type 0 = λ x. lines_of (take start bytes ++ drop behind bytes) front start part_of ahead size levels ≡ line_dropped x in
      subst P view (rw (lines, lower, moved_tail start are.0) refl)

  pub dropped_sound : (front : List ℕ) (start : ℕ) → starts ≡ front ++ start ∷ [] → IsSound (take start bytes ++ drop behind bytes) front start part_of ahead size levels byte_room start_room window_room
  dropped_sound front start e =
      let are : (start ≤ behind) × AreCut start (reverse front) = dropped_are front behind start (subst (λ (xs : List ℕ). AreCut behind (reverse xs)) e s.are_cut) in
      let n : length (take start bytes) ≡ start = length-take-le start bytes (omega (arith, are.0, s.within)) in
      let l : length (take start bytes ++ drop behind bytes) ≡ length (take start bytes) + length (drop behind bytes) = length-append (take start bytes) (drop behind bytes) in
      let m : length starts ≡ length front + 1 = ap length e ∙ length_push front start in
      record {
        are_cut = are.1;
        within = omega (arith, n, l);
        fits = omega (arith, n, l, m, are.0, s.fits, s.within, length-drop behind bytes);
        no_feed = subst (HasNoFeed part_of) (sym (moved_tail start are.0)) s.no_feed;
        readers_fit = s.readers_fit;
        small = s.small;
        bytes_reserved = s.bytes_reserved;
        starts_reserved = s.starts_reserved;
        windows_reserved = s.windows_reserved;
      }

  -- what stands behind the lines goes
  pub cleared_is : (p : Option ℕ) (ahead' : List Ahead) → lines_of (take behind bytes) starts behind p ahead' size levels ≡ record b { tail = []; part_of = p; ahead = ahead' }
  cleared_is p ahead' =
      let P : OpenLines → Type 0 = λ x. lines_of (take behind bytes) starts behind p ahead' size levels ≡ record x { tail = []; part_of = p; ahead = ahead' } in
      subst P view (rw (cut-take bytes behind (reverse starts) s.are_cut, nothing_behind behind bytes) refl)

  pub cleared_sound : (p : Option ℕ) (ahead' : List Ahead) → length ahead' ≤ length ahead → IsSound (take behind bytes) starts behind p ahead' size levels byte_room start_room window_room
  cleared_sound p ahead' fewer =
      let n : length (take behind bytes) ≡ behind = length-take-le behind bytes s.within in
      record {
        are_cut = s.are_cut;
        within = omega (arith, n);
        fits = omega (arith, n, s.fits, s.within);
        no_feed = subst (HasNoFeed p) (sym (nothing_behind behind bytes)) (no_feed_empty p);
        readers_fit = omega (arith, fewer, s.readers_fit);
        small = s.small;
        bytes_reserved = s.bytes_reserved;
        starts_reserved = s.starts_reserved;
        windows_reserved = s.windows_reserved;
      }

  -- bytes come behind
  pub grown_is : (more : List ℕ) (p : Option ℕ) (ahead' : List Ahead) → lines_of (bytes ++ more) starts behind p ahead' size levels ≡ record b { tail = b.tail ++ more; part_of = p; ahead = ahead' }
  grown_is more p ahead' =
      let P : OpenLines → Type 0 = λ x. lines_of (bytes ++ more) starts behind p ahead' size levels ≡ record x { tail = x.tail ++ more; part_of = p; ahead = ahead' } in
      subst P view (rw (cut-append bytes more behind (reverse starts) s.within s.are_cut, drop-append-le behind bytes more s.within) refl)

  pub grown_sound : (more : List ℕ) (p : Option ℕ) (ahead' : List Ahead) (byte_room' window_room' : ℕ) → used b + (length b.tail + length more) ≤ b.buffer_size → HasNoFeed p (b.tail ++ more) → length ahead' ≤ levels + 16 →
      byte_room ≤ byte_room' → window_room ≤ window_room' → IsSound (bytes ++ more) starts behind p ahead' size levels byte_room' start_room window_room'
  grown_sound more p ahead' byte_room' window_room' room none fit br wr =
      let n : length (bytes ++ more) ≡ length bytes + length more = length-append bytes more in
      record {
        are_cut = s.are_cut;
        within = omega (arith, n, s.within);
        fits = omega (arith, n, length_tail, used_view, size_view, room);
        no_feed = subst (HasNoFeed p) (ap (λ (xs : List ℕ). xs ++ more) tail_view ∙ sym (drop-append-le behind bytes more s.within)) none;
        readers_fit = fit;
        small = s.small;
        bytes_reserved = omega (arith, s.bytes_reserved, br);
        starts_reserved = s.starts_reserved;
        windows_reserved = omega (arith, s.windows_reserved, wr);
      }

  -- what is read ahead changes
  pub ahead_is : (p : Option ℕ) (ahead' : List Ahead) → lines_of bytes starts behind p ahead' size levels ≡ record b { part_of = p; ahead = ahead' }
  ahead_is p ahead' = ap (λ (x : OpenLines). record x { part_of = p; ahead = ahead' }) view

  pub ahead_sound : (p : Option ℕ) (ahead' : List Ahead) (window_room' : ℕ) → HasNoFeed p b.tail → length ahead' ≤ levels + 16 → window_room ≤ window_room' → IsSound bytes starts behind p ahead' size levels byte_room start_room window_room'
  ahead_sound p ahead' window_room' none fit wr = record {
    are_cut = s.are_cut;
    within = s.within;
    fits = s.fits;
    no_feed = subst (HasNoFeed p) tail_view none;
    readers_fit = fit;
    small = s.small;
    bytes_reserved = s.bytes_reserved;
    starts_reserved = s.starts_reserved;
    windows_reserved = omega (arith, s.windows_reserved, wr);
  }

  pub no_starts : starts ≡ [] → b.lines ≡ []
  unfolding cut
  no_starts e = ap (λ (x : OpenLines). x.lines) (sym view) ∙ ap (λ (xs : List ℕ). cut bytes behind (reverse xs)) e

  pub byte_is : (byte : ℕ) → lines_of (bytes ++ byte ∷ []) starts behind None ahead size levels ≡ byte_spelt byte b
  byte_is byte =
      let P : OpenLines → Type 0 = λ x. lines_of (bytes ++ byte ∷ []) starts behind None ahead size levels ≡ byte_spelt byte x in
      subst P view (rw (cut-append bytes (byte ∷ []) behind (reverse starts) s.within s.are_cut, drop-append-le behind bytes (byte ∷ []) s.within) refl)

  -- the same readers
  pub cleared_same : (p : Option ℕ) → lines_of (take behind bytes) starts behind p ahead size levels ≡ record b { tail = []; part_of = p }
  cleared_same p =
      let P : OpenLines → Type 0 = λ x. lines_of (take behind bytes) starts behind p ahead size levels ≡ record x { tail = []; part_of = p } in
      subst P view (rw (cut-take bytes behind (reverse starts) s.are_cut, nothing_behind behind bytes) refl)

  pub name_cleared : part_of ≡ None → lines_of (take behind bytes) starts behind part_of ahead size levels ≡ name_dropped b
  name_cleared e =
      let p : b.part_of ≡ part_of = ap (λ (x : OpenLines). x.part_of) (sym view) in
      cleared_same part_of ∙ ap (λ (q : Option ℕ). record b { tail = []; part_of = q }) (sym p) ∙ ap (λ (xs : List ℕ). record b { tail = xs }) (ap (λ (q : Option ℕ). part_in q b.tail) (sym (p ∙ e)))

  pub part_of_view : b.part_of ≡ part_of
  part_of_view = ap (λ (x : OpenLines). x.part_of) (sym view)

  pub part_gone : (id : ℕ) → part_of ≡ Some id → lines_of (take behind bytes) starts behind None ahead size levels ≡ part_dropped id b
  part_gone id e =
      let p : b.part_of ≡ Some id = part_of_view ∙ e in
      let t : tail_without b.part_of b.tail id ≡ [] = ap (λ (q : Option ℕ). tail_without q b.tail id) p ∙ ap (λ (x : Bool). if x then [] else b.tail) (is_same id id refl) in
      let q : part_without b.part_of id ≡ None = ap (λ (q : Option ℕ). part_without q id) p ∙ ap (λ (x : Bool). if x then None else Some id) (is_same id id refl) in
      cleared_same None ∙ rw (t, q) refl

  pub none_gone : (id : ℕ) → part_of ≡ None → b ≡ part_dropped id b
  none_gone id e =
      let p : b.part_of ≡ None = part_of_view ∙ e in
      let t : tail_without b.part_of b.tail id ≡ b.tail = ap (λ (q : Option ℕ). tail_without q b.tail id) p in
      let q : part_without b.part_of id ≡ b.part_of = ap (λ (q : Option ℕ). part_without q id) p ∙ sym p in
      sym (same_parts b _ _ t q)

  pub other_gone : (id reader : ℕ) → part_of ≡ Some reader → reader ≢ id → b ≡ part_dropped id b
  other_gone id reader e ne =
      let p : b.part_of ≡ Some reader = part_of_view ∙ e in
      let t : tail_without b.part_of b.tail id ≡ b.tail = ap (λ (q : Option ℕ). tail_without q b.tail id) p ∙ ap (λ (x : Bool). if x then [] else b.tail) (is_other reader id ne) in
      let q : part_without b.part_of id ≡ b.part_of = ap (λ (q : Option ℕ). part_without q id) p ∙ ap (λ (x : Bool). if x then None else Some reader) (is_other reader id ne) ∙ sym p in
      sym (same_parts b _ _ t q)

  pub forgotten_is : (id : ℕ) (ahead' : List Ahead) → lines_of bytes starts behind part_of ahead' size levels ≡ record b { ahead = ahead' }
  forgotten_is id ahead' = ap (λ (x : OpenLines). record x { ahead = ahead' }) view

  fewer : (id : ℕ) (ws : List Ahead) → ws ≡ with_ahead id (ahead_of id ahead) ahead → length (with_ahead id [] b.ahead) ≤ b.text_input_levels + 16 → length ws ≤ levels + 16
  fewer id ws is room =
      let room' : length (with_ahead id [] ahead) ≤ levels + 16 = subst (λ (x : OpenLines). length (with_ahead id [] x.ahead) ≤ x.text_input_levels + 16) (sym view) room in
      omega (arith, room', ap length is, length-with id (ahead_of id ahead) [] ahead)

  pub few_readers : (id : ℕ) (ws : List Ahead) (window_room' : ℕ) → ws ≡ with_ahead id (ahead_of id ahead) ahead → length (with_ahead id [] b.ahead) ≤ b.text_input_levels + 16 → window_room ≤ window_room' →
      IsSound bytes starts behind part_of ws size levels byte_room start_room window_room'
  few_readers id ws window_room' is room more = ahead_sound part_of ws window_room' (subst (HasNoFeed part_of) (sym tail_view) s.no_feed) (fewer id ws is room) more

  no_other : (id : ℕ) (p : Option ℕ) → HasNoFeed p b.tail → b.tail ≡ part_for p b.tail id → HasNoFeed (Some id) b.tail
  no_other id None h e = ap has_feed e
  no_other id (Some reader) h e = h

  pub few_readers_part : (id : ℕ) (ws : List Ahead) (window_room' : ℕ) → ws ≡ with_ahead id (ahead_of id ahead) ahead → length (with_ahead id [] b.ahead) ≤ b.text_input_levels + 16 → HoldsNoOther b id → window_room ≤ window_room' →
      IsSound bytes starts behind (Some id) ws size levels byte_room start_room window_room'
  few_readers_part id ws window_room' is room other more =
      ahead_sound (Some id) ws window_room' (no_other id part_of (subst (HasNoFeed part_of) (sym tail_view) s.no_feed) (subst (λ (p : Option ℕ). b.tail ≡ part_for p b.tail id) part_of_view other)) (fewer id ws is room) more

  pub part_some : (id reader n : ℕ) → part_of ≡ Some reader → reader ≡ id → n ≡ length bytes → MatchBool (nat_lt behind n) (part b id ≢ []) (part b id ≡ [])
  part_some id reader n e same count =
      let p : part b id ≡ b.tail = ap (λ (q : Option ℕ). part_for q b.tail id) (part_of_view ∙ e) ∙ ap (λ (x : Bool). if x then b.tail else []) (is_same reader id same) in
      test_so (nat_lt behind n) (part b id) (λ h. let lt : behind < n = grind (arith, common_steps) in omega (arith, lt, count, length_tail, ap length p)) (λ h. let le : n ≤ behind = grind (arith, common_steps) in omega (arith, le, count, length_tail, ap length p))

  pub some_starts : b.lines ≢ [] → 0 < length starts
  some_starts some = elim (cases_order (length starts) 0) [
    | inl e ↦ absurd (some (no_starts (empty_of starts e)))
    | inr (inl lt) ↦ absurd (omega (arith, lt))
    | inr (inr gt) ↦ gt
  ]

  pub some_line : (at : ℕ) → at < length (innermost b) → b.lines ≢ []
  some_line at lt e = let n : length (innermost b) ≡ 0 = ap (λ (ls : List (List ℕ)). length (first ls)) e in omega (arith, lt, n)

  module _ (front : List ℕ) (start : ℕ) (e : starts ≡ front ++ start ∷ []) where
    start_are : (start ≤ behind) × AreCut start (reverse front)
    start_are = dropped_are front behind start (subst (λ (xs : List ℕ). AreCut behind (reverse xs)) e s.are_cut)

    pub start_within : start ≤ behind
    start_within = start_are.0

    cut_is : (bs : List ℕ) → cut bs behind (reverse starts) ≡ take (behind - start) (drop start bs) ∷ cut bs start (reverse front)
    cut_is bs = ap (λ (xs : List ℕ). cut bs behind (reverse xs)) e ∙ dropped_cut bs front behind start

    pub innermost_is : take (behind - start) (drop start bytes) ≡ innermost b
    innermost_is = sym (ap (λ (x : OpenLines). innermost x) (sym view) ∙ ap first (cut_is bytes))

    pub length_innermost : length (innermost b) + start ≡ behind
    length_innermost = ap (λ (xs : List ℕ). length xs + start) (sym innermost_is) ∙ length_line bytes start behind start_within s.within

    set_front : (at byte : ℕ) → at < length (innermost b) → take (behind - start) (drop start (set bytes (start + at) byte)) ≡ set (innermost b) at byte
    set_front at byte lt =
        ap (take (behind - start)) (drop-set-add start bytes at byte) ∙ take-set-lt (behind - start) (drop start bytes) at byte (omega (arith, lt, length_innermost)) ∙ ap (λ (xs : List ℕ). set xs at byte) innermost_is

    set_tail : (at byte : ℕ) → at < length (innermost b) → drop behind (set bytes (start + at) byte) ≡ drop behind bytes
    set_tail at byte lt = drop-set-lt behind bytes (start + at) byte (omega (arith, lt, length_innermost))

    set_lines : (at byte : ℕ) → at < length (innermost b) → cut (set bytes (start + at) byte) behind (reverse starts) ≡ set (innermost b) at byte ∷ others b.lines
    set_lines at byte lt =
        let below : cut (set bytes (start + at) byte) start (reverse front) ≡ cut bytes start (reverse front) = cut-same (set bytes (start + at) byte) bytes start (reverse front) start_are.1 (take-set-le start bytes (start + at) byte (omega arith)) in
        let lower : cut bytes start (reverse front) ≡ others b.lines = sym (ap (λ (x : OpenLines). others x.lines) (sym view) ∙ ap others (cut_is bytes)) in
        cut_is (set bytes (start + at) byte) ∙ ap (λ (line : List ℕ). line ∷ cut (set bytes (start + at) byte) start (reverse front)) (set_front at byte lt) ∙ ap (λ (ls : List (List ℕ)). set (innermost b) at byte ∷ ls) (below ∙ lower)

    pub set_is : (at byte : ℕ) → at < length (innermost b) → lines_of (set bytes (start + at) byte) starts behind part_of ahead size levels ≡ line_changed (set (innermost b) at byte) b
    set_is at byte lt =
        let here : lines_of (set bytes (start + at) byte) starts behind part_of ahead size levels ≡ record (lines_of bytes starts behind part_of ahead size levels) { lines = set (innermost b) at byte ∷ others b.lines }
        = rw (set_lines at byte lt, set_tail at byte lt) refl in
        here ∙ ap (λ (x : OpenLines). record x { lines = set (innermost b) at byte ∷ others b.lines }) view

    pub set_sound : (at byte : ℕ) → at < length (innermost b) → IsSound (set bytes (start + at) byte) starts behind part_of ahead size levels byte_room start_room window_room
    set_sound at byte lt =
        let n : length (set bytes (start + at) byte) ≡ length bytes = grind (arith, common_steps) in
        record {
          are_cut = s.are_cut;
          within = omega (arith, n, s.within);
          fits = omega (arith, n, s.fits);
          no_feed = subst (HasNoFeed part_of) (sym (set_tail at byte lt)) s.no_feed;
          readers_fit = s.readers_fit;
          small = s.small;
          bytes_reserved = s.bytes_reserved;
          starts_reserved = s.starts_reserved;
          windows_reserved = s.windows_reserved;
        }

    -- the innermost line written anew, with what stands behind it
    abbrev pub written : List ℕ → List ℕ
    written line = take start bytes ++ (line ++ drop (behind - start) (drop start bytes))

    -- as a write to a part of the bytes leaves them
    abbrev pub rewritten : ℕ → List ℕ → List ℕ
    rewritten n line = take n (written line ++ drop (length (written line)) bytes)

    module _ (line : List ℕ) (same : length line ≡ length (innermost b)) where
      length_front : length (take start bytes) ≡ start
      length_front = length-take-le start bytes (omega (arith, start_within, s.within))

      rest_is : drop (behind - start) (drop start bytes) ≡ drop behind bytes
      rest_is = let n : start + (behind - start) ≡ behind = omega (arith, start_within) in drop-drop (behind - start) start bytes ∙ ap (λ (k : ℕ). drop k bytes) n

      written_is : written line ≡ (take start bytes ++ line) ++ drop behind bytes
      written_is = ap (λ (xs : List ℕ). take start bytes ++ (line ++ xs)) rest_is ∙ sym (append_assoc (take start bytes) line (drop behind bytes))

      length_both : length (take start bytes ++ line) ≡ behind
      length_both = omega (arith, length-append (take start bytes) line, length_front, same, length_innermost)

      length_written : length (written line) ≡ length bytes
      length_written = ap length written_is ∙ omega (arith, length-append (take start bytes ++ line) (drop behind bytes), length_both, length-drop behind bytes, s.within)

      rewritten_is : (n : ℕ) → n ≡ length bytes → rewritten n line ≡ written line
      rewritten_is n whole = take_at (written line) (drop (length (written line)) bytes) n (length_written ∙ sym whole)

      written_tail : drop behind (written line) ≡ drop behind bytes
      written_tail = ap (drop behind) written_is ∙ drop_at (take start bytes ++ line) (drop behind bytes) behind length_both

      written_lines : cut (written line) behind (reverse starts) ≡ line ∷ others b.lines
      written_lines =
          let rest : List ℕ = line ++ drop (behind - start) (drop start bytes) in
          let m : length line ≡ behind - start = omega (arith, same, length_innermost) in
          let here : take (behind - start) (drop start (written line)) ≡ line = ap (take (behind - start)) (drop_at (take start bytes) rest start length_front) ∙ take_at line (drop (behind - start) (drop start bytes)) (behind - start) m in
          let below : cut (written line) start (reverse front) ≡ cut bytes start (reverse front) = cut-same (written line) bytes start (reverse front) start_are.1 (take_at (take start bytes) rest start length_front) in
          let lower : cut bytes start (reverse front) ≡ others b.lines = sym (ap (λ (x : OpenLines). others x.lines) (sym view) ∙ ap others (cut_is bytes)) in
          cut_is (written line) ∙ ap (λ (xs : List ℕ). xs ∷ cut (written line) start (reverse front)) here ∙ ap (λ (ls : List (List ℕ)). line ∷ ls) (below ∙ lower)

      pub edited_is : (n : ℕ) → n ≡ length bytes → lines_of (rewritten n line) starts behind part_of ahead size levels ≡ line_changed line b
      edited_is n whole =
          let here : lines_of (written line) starts behind part_of ahead size levels ≡ record (lines_of bytes starts behind part_of ahead size levels) { lines = line ∷ others b.lines }
          = rw (written_lines, written_tail) refl in
          ap (λ (bs : List ℕ). lines_of bs starts behind part_of ahead size levels) (rewritten_is n whole) ∙ here ∙ ap (λ (x : OpenLines). record x { lines = line ∷ others b.lines }) view

      pub edited_sound : (n : ℕ) → n ≡ length bytes → IsSound (rewritten n line) starts behind part_of ahead size levels byte_room start_room window_room
      edited_sound n whole =
          subst (λ (bs : List ℕ). IsSound bs starts behind part_of ahead size levels byte_room start_room window_room) (sym (rewritten_is n whole)) (record {
            are_cut = s.are_cut;
            within = omega (arith, length_written, s.within);
            fits = omega (arith, length_written, s.fits);
            no_feed = subst (HasNoFeed part_of) (sym written_tail) s.no_feed;
            readers_fit = s.readers_fit;
            small = s.small;
            bytes_reserved = s.bytes_reserved;
            starts_reserved = s.starts_reserved;
            windows_reserved = s.windows_reserved;
          })
