-- A line that is being read: what has come in so far, and how it ends.
use Rattle.std.proofs.Common.{◌≡◌, ℕ, ◌+◌, ◌<◌, ◌≤◌, Bool, false, true, List, [], ◌++◌, refl, ap, sym, ◌∙◌, subst, arith, append_assoc}
use Rattle.std.specs.Prelude.{Some, None, if◌then◌else◌, nat_lt}
use Rattle.std.proofs.lemmas.List.{append-nil}
use Rattle.std.proofs.lemmas.Grind.{common_steps}
use Rattle.tex_defs.specs.declared.Full.{Full as FullTable}
use Rattle.plain_tokens.specs.Lines.{has_feed, before_feed, behind_feed}
use Rattle.world_io.specs.Contents.{FilesTold}
use Rattle.line_reader.specs.Ahead.{Ahead, is_begun, ahead_of, with_ahead}
use Rattle.line_reader.specs.OpenLines.{OpenLines, used, held, part_read, refusal, buffer_full, HoldsNoOther}
use Rattle.line_reader.specs.Reading.{CameIn}
use Rattle.line_reader.proofs.AheadOf.{begun, ahead-with, with-with}
use Rattle.line_reader.proofs.Parts.{has-append, before-whole, behind-whole, came_none, came_more}

pub record Going (id : ℕ) (f : FilesTold) (b : OpenLines) (f' : FilesTold) (b' : OpenLines) : Type 0 where
  pub got : List ℕ
  pub came : CameIn id got f f'
  pub front : List ℕ
  pub left : List ℕ
  pub kept : front ++ left ≡ held b id ++ got
  pub no_feed : has_feed front ≡ false
  pub after : b' ≡ part_read id front left b
  pub faults : f.read_faults ≤ f'.read_faults
  pub wants : f.wants ≤ f'.wants
  pub writes : f'.write_faults ≡ f.write_faults

pub going_begin : (id : ℕ) (f : FilesTold) (b b' : OpenLines) → HoldsNoOther b id → has_feed b.tail ≡ false → b' ≡ part_read id b.tail (ahead_of id b.ahead) b → Going id f b f b'
going_begin id f b b' other none after = record {
  got = [];
  came = came_none id f;
  front = b.tail;
  left = ahead_of id b.ahead;
  kept = ap (λ (xs : List ℕ). xs ++ ahead_of id b.ahead) other ∙ sym (append-nil (held b id));
  no_feed = none;
  after = after;
  faults = omega arith;
  wants = omega arith;
  writes = refl;
}

module _ (id : ℕ) (f : FilesTold) (b : OpenLines) (f' : FilesTold) (b' : OpenLines) (g : Going id f b f' b') where
  pub tail_is : b'.tail ≡ g.front
  tail_is = ap (λ (x : OpenLines). x.tail) g.after

  pub left_is : ahead_of id b'.ahead ≡ g.left
  left_is = ap (λ (x : OpenLines). ahead_of id x.ahead) g.after ∙ ahead-with id g.left b.ahead

  pub begun_is : is_begun id b'.ahead ≡ true
  begun_is = ap (λ (x : OpenLines). is_begun id x.ahead) g.after ∙ begun id g.left b.ahead

  pub part_is : b'.part_of ≡ Some id
  part_is = ap (λ (x : OpenLines). x.part_of) g.after

  pub used_is : used b' ≡ used b
  used_is = ap used g.after

  pub size_is : b'.buffer_size ≡ b.buffer_size
  size_is = ap (λ (x : OpenLines). x.buffer_size) g.after

  -- what a call makes of the tail and what is ahead, said of the first state
  pub part_again : (front bytes : List ℕ) → part_read id front bytes b' ≡ part_read id front bytes b
  part_again front bytes = ap (part_read id front bytes) g.after ∙ ap (λ (a : List Ahead). record b { tail = front; part_of = Some id; ahead = a }) (with-with id g.left bytes b.ahead)

  -- without a line feed the bytes ahead all come into the part
  pub going_on : (b'' : OpenLines) → b'' ≡ part_read id (b'.tail ++ before_feed (ahead_of id b'.ahead)) (behind_feed (ahead_of id b'.ahead)) b' → has_feed (ahead_of id b'.ahead) ≡ false → Going id f b f' b''
  going_on b'' after none =
      let none' : has_feed g.left ≡ false = subst (λ (xs : List ℕ). has_feed xs ≡ false) left_is none in
      let t : b'.tail ++ before_feed (ahead_of id b'.ahead) ≡ g.front ++ g.left = ap (λ (xs : List ℕ). xs ++ before_feed (ahead_of id b'.ahead)) tail_is ∙ ap (λ (xs : List ℕ). g.front ++ before_feed xs) left_is ∙ ap (λ (xs : List ℕ). g.front ++ xs) (before-whole g.left none') in
      let l : behind_feed (ahead_of id b'.ahead) ≡ [] = ap behind_feed left_is ∙ behind-whole g.left none' in
      record {
        got = g.got;
        came = g.came;
        front = g.front ++ g.left;
        left = [];
        kept = append-nil (g.front ++ g.left) ∙ g.kept;
        no_feed = has-append g.front g.left g.no_feed ∙ none';
        after = after ∙ ap (λ (xs : List ℕ). part_read id xs (behind_feed (ahead_of id b'.ahead)) b') t ∙ ap (λ (xs : List ℕ). part_read id (g.front ++ g.left) xs b') l ∙ part_again (g.front ++ g.left) [];
        faults = g.faults;
        wants = g.wants;
        writes = g.writes;
      }

  pub going_read : (f'' : FilesTold) (b'' : OpenLines) → ahead_of id b'.ahead ≡ [] → b'' ≡ record b' { ahead = with_ahead id (ahead_of id b''.ahead) b'.ahead } → CameIn id (ahead_of id b''.ahead) f' f'' →
      f'.read_faults ≤ f''.read_faults → f'.wants ≤ f''.wants → f''.write_faults ≡ f'.write_faults → Going id f b f'' b''
  going_read f'' b'' none after came faults wants writes =
      let more : List ℕ = ahead_of id b''.ahead in
      let nothing : g.left ≡ [] = sym left_is ∙ none in
      let front : g.front ≡ held b id ++ g.got = sym (append-nil g.front) ∙ ap (λ (xs : List ℕ). g.front ++ xs) (sym nothing) ∙ g.kept in
      record {
        got = g.got ++ more;
        came = came_more id g.got more f f' f'' g.came came;
        front = g.front;
        left = more;
        kept = ap (λ (xs : List ℕ). xs ++ more) front ∙ append_assoc (held b id) g.got more;
        no_feed = g.no_feed;
        after = after ∙ ap (λ (x : OpenLines). record x { ahead = with_ahead id more x.ahead }) g.after ∙ ap (λ (a : List Ahead). record b { tail = g.front; part_of = Some id; ahead = a }) (with-with id g.left more b.ahead);
        faults = omega (arith, g.faults, faults);
        wants = omega (arith, g.wants, wants);
        writes = writes ∙ g.writes;
      }

refused_so : (b : OpenLines) (need : ℕ) (full : FullTable) (x : Bool) → (x ≡ true → b.buffer_size < used b + need) → (if x then Some (buffer_full b) else None) ≡ Some full → (full ≡ buffer_full b) × (b.buffer_size < used b + need)
refused_so b need full true lt e = (cc, lt refl)
refused_so b need full false lt e = absurd (cc)

-- a refusal says that the room is too small
pub refused_is : (b : OpenLines) (need : ℕ) (full : FullTable) → refusal b need ≡ Some full → (full ≡ buffer_full b) × (b.buffer_size < used b + need)
refused_is b need full e = refused_so b need full (nat_lt b.buffer_size (used b + need)) (λ h. grind (arith, common_steps)) e
