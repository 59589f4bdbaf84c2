use Rattle.std.proofs.Common.{rules, ◌≡◌, ℕ, ◌+◌, ◌-◌, List, [], ◌++◌, take, drop, length, ◌≤◌, subst, take_all, refl, ap, append_assoc, sym, ◌∙◌, arith, Bool, true, false}
use Rattle.std.specs.Prelude.{if◌then◌else◌, bytes_eq, Option, Some, None, IsSome}
use Rattle.std.proofs.lemmas.List.{append-nil}
use Rattle.std.proofs.Math.Seq.{take-add}
use Rattle.std.proofs.lemmas.Grind.{common_steps}
use Rattle.tex_defs.specs.Places.{File, Untold, NotHeld, Holds, grown}
use Rattle.world_io.specs.Contents.{FilesTold, Grew, SameFiles}

pub grown_twice : (o : File) (a b : List ℕ) → grown (grown o a) b ≡ grown o (a ++ b)
grown_twice Untold a b = refl
grown_twice NotHeld a b = refl
grown_twice (Holds x) a b = ap Holds (append_assoc x a b)

pub grown_none : (o : File) → grown o [] ≡ o
grown_none Untold = refl
grown_none NotHeld = refl
grown_none (Holds x) = ap Holds (append-nil x)

rest_whole : (i : ℕ) (bs : List ℕ) → take (length bs - i) (drop i bs) ≡ drop i bs
rest_whole i bs = grind (arith, common_steps)

pub grown_on : (o o' : File) (bs : List ℕ) (i n : ℕ) → o' ≡ grown (grown o (take i bs)) (take n (take (length bs - i) (drop i bs))) → o' ≡ grown o (take (i + n) bs)
grown_on o o' bs i n e =
    let f : o' ≡ grown (grown o (take i bs)) (take n (drop i bs)) = rw rest_whole at e in
    f ∙ grown_twice o (take i bs) (take n (drop i bs)) ∙ ap (grown o) (sym (take-add i n bs))

at_none : (b : Bool) (o : File) → o ≡ (if b then grown o [] else o)
at_none true o = sym (grown_none o)
at_none false o = refl

pub grew_none : (name : List ℕ) (f : FilesTold) → Grew name [] f f
grew_none name f = record {
  file = λ n. at_none (bytes_eq n name) (f.file n);
  reading = λ i. refl;
  rest = λ i. refl;
  writer = λ i. refl;
}

at_on : (b : Bool) (o o' o'' : File) (bs : List ℕ) (i n : ℕ) → o' ≡ (if b then grown o (take i bs) else o) → o'' ≡ (if b then grown o' (take n (take (length bs - i) (drop i bs))) else o') → o'' ≡ (if b then grown o (take (i + n) bs) else o)
at_on true o o' o'' bs i n e f = grown_on o o'' bs i n (f ∙ ap (λ (x : File). grown x (take n (take (length bs - i) (drop i bs)))) e)
at_on false o o' o'' bs i n e f = f ∙ e

pub grew_on : (name : List ℕ) (f f' f'' : FilesTold) (bs : List ℕ) (i n : ℕ) → Grew name (take i bs) f f' → Grew name (take n (take (length bs - i) (drop i bs))) f' f'' → Grew name (take (i + n) bs) f f''
grew_on name f f' f'' bs i n a b = record {
  file = λ x. at_on (bytes_eq x name) (f.file x) (f'.file x) (f''.file x) bs i n (a.file x) (b.file x);
  reading = λ j. b.reading j ∙ a.reading j;
  rest = λ j. b.rest j ∙ a.rest j;
  writer = λ j. b.writer j ∙ a.writer j;
}

pub grew_same : (name : List ℕ) (f f' f'' : FilesTold) (bs : List ℕ) → Grew name bs f f' → SameFiles f' f'' → Grew name bs f f''
grew_same name f f' f'' bs a b = record {
  file = λ x. b.file x ∙ a.file x;
  reading = λ j. b.reading j ∙ a.reading j;
  rest = λ j. b.rest j ∙ a.rest j;
  writer = λ j. b.writer j ∙ a.writer j;
}

pub grew_whole : (name : List ℕ) (f f' : FilesTold) (i : ℕ) (bs : List ℕ) → length bs ≤ i → Grew name (take i bs) f f' → Grew name bs f f'
grew_whole name f f' i bs le a = subst (λ (x : List ℕ). Grew name x f f') (take_all i bs le) a

-- what holds by the name of an open writer holds
pub by_name : (o o' : Option (List ℕ)) → IsSome o → ((name : List ℕ) → o ≡ Some name → o' ≡ o) → o' ≡ o
by_name None o' h k = search rules
by_name (Some name) o' h k = k name refl
