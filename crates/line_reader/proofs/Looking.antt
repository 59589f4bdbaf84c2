-- Whether a line is left of a file.
use Rattle.std.proofs.Common.{◌≡◌, ◌≢◌, ℕ, ◌<◌, Bool, false, true, not, List, [], ◌++◌, length, refl, ap, sym, ◌∙◌, arith, append_assoc}
use Rattle.std.specs.Prelude.{Some, option_map, MatchBool}
use Rattle.std.proofs.lemmas.List.{append-nil, length-append}
use Rattle.world_io.specs.Contents.{FilesTold, SameFiles, IsAtEnd}
use Rattle.line_reader.specs.Ahead.{Ahead, is_begun, ahead_of, with_ahead}
use Rattle.line_reader.specs.OpenLines.{OpenLines, held, part}
use Rattle.line_reader.specs.Reading.{CameIn, LooksAhead, rest_of}
use Rattle.line_reader.proofs.AheadOf.{begun, ahead-with, with-with}
use Rattle.line_reader.proofs.Parts.{came_none}
use Rattle.line_reader.proofs.Knowing.{some_more, Behind, behind, at_end, rest_is}

pub holds_part : (x : Bool) (xs ys : List ℕ) → x ≡ true → MatchBool x (xs ≢ []) (xs ≡ []) → MatchBool x (xs ++ ys ≢ []) ((xs ++ ys ≡ []) × (ys ≡ []))
holds_part true xs ys e h = some_more xs ys h
holds_part false xs ys e h = absurd (cc)

module _ (id : ℕ) (b b' : OpenLines) (after : b' ≡ record b { ahead = with_ahead id (ahead_of id b.ahead) b.ahead }) where
  pub begun_so : is_begun id b'.ahead ≡ true
  begun_so = ap (λ (x : OpenLines). is_begun id x.ahead) after ∙ begun id (ahead_of id b.ahead) b.ahead

  pub ahead_so : ahead_of id b'.ahead ≡ ahead_of id b.ahead
  ahead_so = ap (λ (x : OpenLines). ahead_of id x.ahead) after ∙ ahead-with id (ahead_of id b.ahead) b.ahead

  pub held_so : held b' id ≡ held b id
  held_so = ap (λ (x : OpenLines). held x id) after ∙ ap (λ (xs : List ℕ). part b id ++ xs) (ahead-with id (ahead_of id b.ahead) b.ahead)

  -- something is held
  pub looks_held : (f : FilesTold) → held b' id ≢ [] → LooksAhead id false f b f b'
  looks_held f some = record {
    got = [];
    came = came_none id f;
    after = after ∙ ap (λ (xs : List ℕ). record b { ahead = with_ahead id xs b.ahead }) (sym (append-nil (ahead_of id b.ahead)));
    answer = λ e. some (held_so ∙ sym (append-nil (held b id)) ∙ e);
  }

  answer_so : (f' : FilesTold) (got : List ℕ) (more : Bool) → held b id ≡ [] → (more ≡ true → 0 < length got) → (more ≡ false → (got ≡ []) × IsAtEnd (f'.rest id)) → MatchBool (not more) ((held b id ++ got ≡ []) × IsAtEnd (f'.rest id)) (held b id ++ got ≢ [])
  answer_so f' got true none some ended = λ e. let l : length (held b id ++ got) ≡ 0 = ap length e in omega (arith, l, length-append (held b id) got, some refl)
  answer_so f' got false none some ended = (ap (λ (xs : List ℕ). xs ++ got) none ∙ (ended refl).0, (ended refl).1)

  -- nothing is held, and a call on the files told whether there is more
  pub looks_read : (f f' : FilesTold) (b2 : OpenLines) (more : Bool) → (held b' id ≡ []) × (ahead_of id b'.ahead ≡ []) → b2 ≡ record b' { ahead = with_ahead id (ahead_of id b2.ahead) b'.ahead } → CameIn id (ahead_of id b2.ahead) f f' →
      (more ≡ true → 0 < length (ahead_of id b2.ahead)) → (more ≡ false → (ahead_of id b2.ahead ≡ []) × IsAtEnd (f'.rest id)) → LooksAhead id (not more) f b f' b2
  looks_read f f' b2 more none after2 came some ended =
      let got : List ℕ = ahead_of id b2.ahead in
      let e : b2 ≡ record b { ahead = with_ahead id got b.ahead } = after2 ∙ ap (λ (x : OpenLines). record x { ahead = with_ahead id got x.ahead }) after ∙ ap (λ (a : List Ahead). record b { ahead = a }) (with-with id (ahead_of id b.ahead) got b.ahead) in
      let nothing : ahead_of id b.ahead ≡ [] = sym ahead_so ∙ none.1 in
      record {
        got = got;
        came = came;
        after = e ∙ ap (λ (xs : List ℕ). record b { ahead = with_ahead id (xs ++ got) b.ahead }) (sym nothing);
        answer = answer_so f' got more (sym held_so ∙ none.0) some ended;
      }

  -- the call failed
  pub left_same : (f f' : FilesTold) (b2 : OpenLines) → b2 ≡ b' → SameFiles f f' → (rest : List ℕ) → rest_of id f b ≡ Some rest → rest_of id f' b2 ≡ Some rest
  left_same f f' b2 same files rest e =
      ap (λ (x : OpenLines). rest_of id f' x) same ∙ ap (λ (xs : List ℕ). option_map (λ left. xs ++ left) (f'.rest id)) held_so ∙ ap (option_map (λ left. held b id ++ left)) (files.rest id) ∙ e

told_so : (none : Bool) (f' : FilesTold) (id : ℕ) (whole rest : List ℕ) → Behind id f' rest whole → MatchBool none ((whole ≡ []) × IsAtEnd (f'.rest id)) (whole ≢ []) → MatchBool none (rest ≡ []) (rest ≢ [])
told_so true f' id whole rest r h = r.is ∙ ap (λ (xs : List ℕ). xs ++ r.more) h.0 ∙ at_end (f'.rest id) r.more r.left h.1
told_so false f' id whole rest r h = λ e. some_more whole r.more h (sym r.is ∙ e)

module _ (id : ℕ) (none : Bool) (f : FilesTold) (b : OpenLines) (f' : FilesTold) (b' : OpenLines) (l : LooksAhead id none f b f' b') (rest : List ℕ) (known : rest_of id f b ≡ Some rest) where
  pub told_looks : MatchBool none (rest ≡ []) (rest ≢ [])
  told_looks = told_so none f' id (held b id ++ l.got) rest (behind id f b f' rest l.got known l.came) l.answer

  pub left_looks : rest_of id f' b' ≡ Some rest
  left_looks =
      let whole : List ℕ = held b id ++ l.got in
      let r : Behind id f' rest whole = behind id f b f' rest l.got known l.came in
      let now : held b' id ≡ whole = ap (λ (x : OpenLines). held x id) l.after ∙ ap (λ (xs : List ℕ). part b id ++ xs) (ahead-with id (ahead_of id b.ahead ++ l.got) b.ahead) ∙ sym (append_assoc (part b id) (ahead_of id b.ahead) l.got) in
      rest_is id f' b' whole r.more now r.left ∙ ap Some (sym r.is)
