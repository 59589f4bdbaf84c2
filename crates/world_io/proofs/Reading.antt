use Rattle.std.proofs.Common.{rules, ◌≡◌, ℕ, List, [], ◌++◌, sym, ap, ◌∙◌, refl, append_assoc, take, drop, Bool, true, false, arith, subst}
use Rattle.std.specs.Prelude.{Option, Some, None, option_map, nat_eq, if◌then◌else◌}
use Rattle.std.proofs.lemmas.List.{append-nil, take-append-drop}
use Rattle.std.proofs.lemmas.Grind.{common_steps}
use Rattle.tex_defs.specs.Places.{File, Untold, NotHeld, Holds}
use Rattle.world_io.specs.Contents.{FilesTold, SameFiles, OpensReader, OpensWriter, ClosesReader, ReadFrom, OnlyReads, SoFar, IsAll, IsContent, IsAtEnd, HasFront, MayHold, content}

pub so_far_none : (rest : Option (List ℕ)) → SoFar rest [] rest
so_far_none None = refl
so_far_none (Some r) = refl

so_far_on : (first rest : Option (List ℕ)) (bytes piece : List ℕ) (n : ℕ) → SoFar first bytes rest → HasFront rest n piece → SoFar first (bytes ++ take n piece) (option_map (drop n) rest)
so_far_on None None bytes piece n h r = refl
so_far_on None (Some x) bytes piece n h r = search rules
so_far_on (Some b) None bytes piece n h r = absurd h
so_far_on (Some b) (Some x) bytes piece n h r =
    h ∙ ap (λ (z : List ℕ). bytes ++ z) (sym (take-append-drop n x)) ∙ sym (append_assoc bytes (take n x) (drop n x)) ∙ ap (λ (z : List ℕ). (bytes ++ z) ++ drop n x) (sym (r.1))

same_id : (id : ℕ) {T : Type 0} (a b : T) → (if nat_eq id id then a else b) ≡ a
same_id id a b = grind (arith, common_steps)

pub so_far_read : (first : Option (List ℕ)) (bytes piece : List ℕ) (id n : ℕ) (f f' : FilesTold) → SoFar first bytes (f.rest id) → ReadFrom id n piece f f' → SoFar first (bytes ++ take n piece) (f'.rest id)
so_far_read first bytes piece id n f f' h r =
    subst (λ (x : Option (List ℕ)). SoFar first (bytes ++ take n piece) x) (sym (r.rest id ∙ same_id id _ _)) (so_far_on first (f.rest id) bytes piece n h r.moved)

pub so_far_whole : (first rest : Option (List ℕ)) (bytes : List ℕ) → SoFar first bytes rest → IsAtEnd rest → IsAll first bytes
so_far_whole None rest bytes h e = tt
so_far_whole (Some b) None bytes h e = absurd h
so_far_whole (Some b) (Some x) bytes h e = sym (h ∙ ap (λ (w : List ℕ). bytes ++ w) e ∙ append-nil bytes)

pub only_reads_none : (id : ℕ) (f : FilesTold) → OnlyReads id f f
only_reads_none id f = record { file = λ n. refl; reading = λ i. refl; rest = λ i h. refl; writer = λ i. refl }

other : (b : Bool) {T : Type 0} (x y z : T) → b ≡ false → x ≡ (if b then y else z) → x ≡ z
other true x y z h e = search rules
other false x y z h e = e

pub only_reads_on : (id n : ℕ) (piece : List ℕ) (f f' f'' : FilesTold) → OnlyReads id f f' → ReadFrom id n piece f' f'' → OnlyReads id f f''
only_reads_on id n piece f f' f'' a b = record {
  file = λ x. b.file x ∙ a.file x;
  reading = λ i. b.reading i ∙ a.reading i;
  rest = λ i h. other (nat_eq i id) _ _ _ h (b.rest i) ∙ a.rest i h;
  writer = λ i. b.writer i ∙ a.writer i;
}

pub only_reads_same : (id : ℕ) (f f' f'' : FilesTold) → OnlyReads id f f' → SameFiles f' f'' → OnlyReads id f f''
only_reads_same id f f' f'' a b = record {
  file = λ x. b.file x ∙ a.file x;
  reading = λ i. b.reading i ∙ a.reading i;
  rest = λ i h. b.rest i ∙ a.rest i h;
  writer = λ i. b.writer i ∙ a.writer i;
}

reading_again : (i id : ℕ) (b b1 b2 b3 : Bool) → (i ≡ id → b ≡ false) → b1 ≡ (if nat_eq i id then true else b) → b2 ≡ b1 → b3 ≡ (if nat_eq i id then false else b2) → b3 ≡ b
reading_again i id b b1 b2 b3 h e1 e2 e3 = grind (arith, common_steps)

rest_again : (i id : ℕ) (c b b1 b2 b3 : Option (List ℕ)) → (i ≡ id → b ≡ None) → b1 ≡ (if nat_eq i id then c else b) → (nat_eq i id ≡ false → b2 ≡ b1) → b3 ≡ (if nat_eq i id then None else b2) → b3 ≡ b
rest_again i id c b b1 b2 b3 h e1 e2 e3 = grind (arith, common_steps)

pub closed_again : (id : ℕ) (name : List ℕ) (f f1 f2 f3 : FilesTold) → OpensReader id name f f1 → OnlyReads id f1 f2 → ClosesReader id f2 f3 → SameFiles f f3
closed_again id name f f1 f2 f3 o r c = record {
  file = λ x. c.file x ∙ r.file x ∙ o.file x;
  reading = λ i. reading_again i id (f.reading i) (f1.reading i) (f2.reading i) (f3.reading i) (λ e. ap f.reading e ∙ o.was_closed) (o.reading i) (r.reading i) (c.reading i);
  rest = λ i. rest_again i id (content (f.file name)) (f.rest i) (f1.rest i) (f2.rest i) (f3.rest i) (λ e. ap f.rest e ∙ o.no_rest) (o.rest i) (r.rest i) (c.rest i);
  writer = λ i. c.writer i ∙ r.writer i ∙ o.writer i;
}

pub still_open : (id : ℕ) (name : List ℕ) (f f' : FilesTold) → OpensReader id name f f' → f'.reading id ≡ true
still_open id name f f' o = o.reading id ∙ same_id id _ _

all_content : (o : File) (bytes : List ℕ) → MayHold o → IsAll (content o) bytes → IsContent o bytes
all_content Untold bytes m h = tt
all_content NotHeld bytes m h = absurd m
all_content (Holds b) bytes m h = h

pub opened_content : (id : ℕ) (name bytes : List ℕ) (f f' : FilesTold) → OpensReader id name f f' → IsAll (f'.rest id) bytes → IsContent (f.file name) bytes
opened_content id name bytes f f' o h =
    all_content (f.file name) bytes o.held (subst (λ (x : Option (List ℕ)). IsAll x bytes) (o.rest id ∙ same_id id _ _) h)

pub still_writing : (id : ℕ) (name : List ℕ) (f f' : FilesTold) → OpensWriter id name f f' → f'.writer id ≡ Some name
still_writing id name f f' o = o.writer id ∙ same_id id _ _
