-- What a command does where no token is obeyed and none expanded.
use Rattle.std.proofs.Common.{◌≡◌, ℕ, ℤ, List, [], ◌∷◌, ◌++◌, length, Bool, true, false, Option, Some, None, refl, sym, ap, ◌∙◌, subst, ⊎_elim}
use Rattle.std.proofs.lemmas.List.{length-set}
use Rattle.tex_defs.specs.Places.{World}
use Rattle.tex_defs.specs.declared.Full.{Full}
use Rattle.tex_defs.specs.declared.Name.{Name}
use Rattle.tex_defs.specs.declared.Seen.{Seen}
use Rattle.tex_defs.specs.declared.Sizes.{Sizes}
use Rattle.tex_defs.specs.declared.Token.{Token}
use Rattle.plain_tokens.specs.Meanings.{is_listed}
use Rattle.plain_tokens.specs.Tables.{refused}
use Rattle.equivalents.specs.declared.values.CodeKind.TheVariants as code
use Rattle.tex_defs.specs.declared.RegisterKind.TheVariants as register
use Rattle.equivalents.specs.declared.values.Glue.{Glue}
use Rattle.equivalents.specs.declared.values.Loc.{Loc}
use Rattle.equivalents.specs.declared.values.Loc.TheVariants as loc
use Rattle.equivalents.specs.declared.values.Val.TheVariants as val
use Rattle.equivalents.specs.Locations.{V, IsInRow, Suits, meaning_of}
use Rattle.equivalents.specs.Groups.{Groups, IsLocation, set, set_demands}
use Rattle.equivalents.specs.Holding.{lists_held}
use Rattle.equivalents.specs.Tables.{Tables, put}
use Rattle.rows.specs.declared.command.Call.{Call}
use Rattle.rows.specs.declared.command.Shorthand.{Shorthand}
use Rattle.rows.specs.declared.command.Effect.{Effect}
use Rattle.rows.specs.declared.command.Effect.TheVariants as effect
use Rattle.plain_machine.specs.declared.broken.Broken.{Broken}
use Rattle.plain_machine.specs.declared.broken.Broken.TheVariants as broken
use Rattle.plain_machine.specs.States.{State, Move, Set}
use Rattle.plain_machine.specs.Plan.{Page, behind_assignment}
use Rattle.plain_machine.specs.Does.{Did}
use Rattle.plain_machine.specs.Numbers.{groups_of, value_of}
use Rattle.plain_machine.proofs.Doing.{did_join}
use Rattle.plain_machine.proofs.GroupNumbers.{set_of, set_demands_of}
use Rattle.plain_machine.proofs.Holders.{set_cases}
use Rattle.world_io.specs.Contents.{FilesTold, SinkTold, world}
use Rattle.input_state.specs.Stored.{Stored, KeepsShared}
use Rattle.engine_state.specs.declared.engine.Engine.{Engine}
use Rattle.engine_state.specs.Book.{Book}
use Rattle.engine_state.specs.Making.{IsInFront}
use Rattle.engine_state.specs.Rules.{world_of, Cuts}
use Rattle.engine_state.specs.Stands.{Stands, SameFrames, SameOthers, SameStore, state_of}
use Rattle.engine_state.proofs.Cutting.{later_cuts}
use Rattle.gullet.proofs.JobName.{name_stands}
use Rattle.stomach.specs.Effects.{put_by, done_alone}
use Rattle.engine_state.proofs.Grouping.{asks_same, unchanged_cuts}
use Rattle.stomach.proofs.Regrouped.{regrouped_did, regrouped_stands}

-- THE COLUMN STAYS

pub did_still : (sizes : Sizes) (s s' : State) (e e' : Engine) (f : FilesTold) (t : SinkTold) (ms : List Move) → e'.in_line ≡ e.in_line → Did sizes s s' (world_of f t e) (world_of f t e) ms → Did sizes s s' (world_of f t e) (world_of f t e') ms
did_still sizes s s' e e' f t ms column h = subst (λ (b : Bool). Did sizes s s' (world_of f t e) (world f t b) ms) (sym column) h

pub cuts_still : (sizes : Sizes) (s : State) (e e' : Engine) (book : Book) (f : FilesTold) (t : SinkTold) (ms : List Move) (b : Broken) → e'.in_line ≡ e.in_line → Cuts sizes s e' book (world_of f t e) (world_of f t e) ms b → Cuts sizes s e' book (world_of f t e) (world_of f t e') ms b
cuts_still sizes s e e' book f t ms b column h = subst (λ (c : Bool). Cuts sizes s e' book (world_of f t e) (world f t c) ms b) (sym column) h

-- A NUMBER, GLUE OR NO LIST AT A LOCATION

-- which is no list
abbrev pub IsPlain : V → Type 0
IsPlain (val.Number z) = Unit {0}
IsPlain (val.Skip h) = Unit {0}
IsPlain (val.Tokens None) = Unit {0}
IsPlain v = ⊥

value_held : (n : ℕ) (global : Bool) (g : Groups) (l : Loc) (v : V) → IsPlain v → is_listed (lists_held (set global g l v)) n ≡ true → is_listed (lists_held g) n ≡ true
value_held n global g l (val.Number z) plain held = ⊎_elim (λ none. cc) (λ was. was) (set_cases n global g l (val.Number z) held)
value_held n global g l (val.Skip h) plain held = ⊎_elim (λ none. cc) (λ was. was) (set_cases n global g l (val.Skip h) held)
value_held n global g l (val.Tokens None) plain held = ⊎_elim (λ none. cc) (λ was. was) (set_cases n global g l (val.Tokens None) held)
value_held n global g l v plain held = absurd plain

put_length : (m : Tables) (l : Loc) (v : V) → length (put m l v).meanings ≡ length m.meanings
put_length m (loc.Code code.Category c) v = refl
put_length m (loc.Code kind c) v = refl
put_length m (loc.Register register.Count n) v = refl
put_length m (loc.Register kind n) v = refl
put_length m (loc.Means n) v = length-set m.meanings n (meaning_of v)
put_length m l v = refl

pub value_length : (global : Bool) (g : Groups) (l : Loc) (v : V) → length (set global g l v).now.meanings ≡ length g.now.meanings
value_length true g l v = put_length g.now l v
value_length false g l v = put_length g.now l v

-- whatever lists are called
same_value : (number : ℕ → ℕ) (v : V) → IsPlain v → v ≡ value_of number v
same_value number (val.Number z) plain = refl
same_value number (val.Skip h) plain = refl
same_value number (val.Tokens None) plain = refl
same_value number v plain = absurd plain

module _ (e : Engine) (i : Stored) (global : Bool) (l : Loc) (v : V) (plain : IsPlain v) (is : i ≡ record e.input { groups = set global e.input.groups l v; lists = i.lists }) where
  abbrev given : Groups
  given = set global e.input.groups l v

  pub value_did : (sizes : Sizes) (w : World) (book : Book) → Stands sizes e book → refused e.input.sizes (set_demands global e.input.groups l) ≡ None →
      Did sizes (state_of e book) (state_of (record e { input = i }) book) w w (Set global l v ∷ [])
  value_did sizes w book st fits =
      regrouped_did e given i is sizes w book (Set global l v) tt
      (asks_same sizes e book None st.sound _ _ (set_demands_of book.number global e.input.groups l) fits)
      (ap (λ (x : V). record (state_of e book) { groups = set global (groups_of book.number e.input.groups) l x }) (same_value book.number v plain)
      ∙ ap (λ (g : Groups). record (state_of e book) { groups = g }) (set_of book.number global e.input.groups l v))

  pub value_stands : KeepsShared e.input i → (sizes : Sizes) (book : Book) → Stands sizes e book → Stands sizes (record e { input = i }) book
  value_stands kept sizes book st =
      regrouped_stands e given i is (value_length global e.input.groups l v) (λ n held. value_held n global e.input.groups l v plain held) kept sizes book st

-- there is no room for the value that it had
pub value_cuts : (sizes : Sizes) (e : Engine) (i : Stored) (book : Book) (w : World) (global : Bool) (l : Loc) (v : V) (more : List Move) (full : Full) → i ≡ e.input → Stands sizes e book → refused e.input.sizes (set_demands global e.input.groups l) ≡ Some full →
    Cuts sizes (state_of e book) (record e { input = i }) book w w (Set global l v ∷ more) (broken.Full full)
value_cuts sizes e i book w global l v more full same st refuses =
    unchanged_cuts sizes e i book w (Set global l v) more full same (asks_same sizes e book (Some full) st.sound _ _ (set_demands_of book.number global e.input.groups l) refuses)

-- where glue may stand there is a location
pub glue_location : (g : Groups) (l : Loc) (h : Glue) → IsInRow l → Suits l (val.Skip h) → IsLocation g l
glue_location g (loc.Means n) h row suits = absurd suits
glue_location g l h row suits = row

-- BEHIND AN ASSIGNMENT

-- another token is to come behind the next one
pub keeping_stands : (sizes : Sizes) (e : Engine) (book : Book) (o : Option Token) → Stands sizes e book → Stands sizes (record e { after = o }) book
keeping_stands sizes e book o st = let sized = st.sound.sized in record {
  sound = record {
    sized = record {
      few_reports = sized.few_reports;
      own = sized.own;
      readings = sized.readings;
      conditionals = sized.conditionals;
      input = sized.input;
      names = sized.names;
      located = sized.located;
    };
    tied = st.sound.tied;
    bodies = st.sound.bodies;
  };
  idle = st.idle;
  readings = record { frames = st.readings.frames; shallow = st.readings.shallow };
  uncalled = st.uncalled;
}

-- the token that came behind it was put in front
pub behind_stands : (sizes : Sizes) (e e' : Engine) (book : Book) → SameFrames e e' → SameOthers (record e { after = None }) e' → SameStore e.input e'.input → e'.input.making ≡ None → Stands sizes e book → Stands sizes e' book
behind_stands sizes e e' book same others store idle st =
    name_stands sizes (record e { after = None }) e' book (record { readings = same.readings; lists = same.lists; call = same.call }) others store idle (keeping_stands sizes e book None st)

-- It is made by these moves, if it is global or not, and the token that comes behind it is put.
module _ (sizes : Sizes) (e e1 : Engine) (book : Book) (f : FilesTold) (t : SinkTold) (moves : Bool → List Move) (global asked : Bool) (is : global ≡ asked) (column : e1.in_line ≡ e.in_line) where
  abbrev here : World
  here = world_of f t e

  -- it isn't made
  pub set_cuts : (b : Broken) (more : List Move) → Cuts sizes (state_of e book) e1 book here here (moves global ++ (behind_assignment e.after ++ more)) b →
      Cuts sizes (state_of e book) e1 book here (world_of f t e1) (moves asked ++ (behind_assignment e.after ++ more)) b
  set_cuts b more h = cuts_still sizes (state_of e book) e e1 book f t _ b column (subst (λ (g : Bool). Cuts sizes (state_of e book) e1 book here here (moves g ++ (behind_assignment e.after ++ more)) b) is h)

  module _ (e2 : Engine) (others : SameOthers (record e1 { after = None }) e2) (after : e1.after ≡ e.after) (did : Did sizes (state_of e book) (state_of e1 book) here here (moves global)) where
    made : Did sizes (state_of e book) (state_of e1 book) here here (moves asked)
    made = subst (λ (g : Bool). Did sizes (state_of e book) (state_of e1 book) here here (moves g)) is did

    pub behind_did : Did sizes (state_of e1 book) (state_of e2 book) here here (behind_assignment e1.after) → Did sizes (state_of e book) (state_of e2 book) here (world_of f t e2) (moves asked ++ behind_assignment e.after)
    behind_did put =
        did_still sizes (state_of e book) (state_of e2 book) e e2 f t _ (others.in_line ∙ column)
        (did_join sizes (state_of e book) (state_of e1 book) (state_of e2 book) here here here (moves asked) (behind_assignment e.after) made
        (subst (λ (o : Option Token). Did sizes (state_of e1 book) (state_of e2 book) here here (behind_assignment o)) after put))

    -- the token has no room
    pub behind_cuts : (b : Broken) (more : List Move) → Cuts sizes (state_of e1 book) e2 book here here (behind_assignment e1.after ++ more) b →
        Cuts sizes (state_of e book) e2 book here (world_of f t e2) (moves asked ++ (behind_assignment e.after ++ more)) b
    behind_cuts b more h =
        cuts_still sizes (state_of e book) e e2 book f t _ b (others.in_line ∙ column)
        (later_cuts sizes (state_of e book) (state_of e1 book) e2 book here here here (moves asked) (behind_assignment e.after ++ more) b made
        (subst (λ (o : Option Token). Cuts sizes (state_of e1 book) e2 book here here (behind_assignment o ++ more) b) after h))

-- WHAT IS PUT IN FRONT

pub front_stands : (sizes : Sizes) (e e' : Engine) (book : Book) → IsInFront e e' → e'.input.making ≡ None → Stands sizes e book → Stands sizes e' book
front_stands sizes e e' book front idle st = name_stands sizes e e' book front.frames front.others front.store idle st

-- another effect is what is put in front
pub put_alone : (page : Page) (c : Call) (x : Effect) → ((s : Seen) → x ≡ effect.Show s → ⊥) → ((l : Loc) → x ≡ effect.ShowValue l → ⊥) → ((n : ℤ) → x ≡ effect.ShowNumber n → ⊥) → ((n : Name) (s : Seen) → x ≡ effect.Let n s → ⊥) →
    ((n : Name) (s t : Seen) → x ≡ effect.FutureLet n s t → ⊥) → ((l : Loc) (value : ℤ) → x ≡ effect.SetNumber l value → ⊥) → ((l : Loc) (g : Glue) → x ≡ effect.SetGlue l g → ⊥) → ((l m : Loc) → x ≡ effect.ShareList l m → ⊥) →
    ((n : Name) (h : Shorthand) → x ≡ effect.Shorthand n h → ⊥) → (x ≡ effect.Unassigned → ⊥) → ((s : Seen) → x ≡ effect.AfterGroup s → ⊥) → ((s : Seen) → x ≡ effect.AfterAssignment s → ⊥) →
    done_alone page c x ≡ put_by page x
put_alone page c (effect.Show s) shows values counts lets later numbers glues shares shorts ends groups behind = absurd (shows s refl)
put_alone page c (effect.ShowValue l) shows values counts lets later numbers glues shares shorts ends groups behind = absurd (values l refl)
put_alone page c (effect.ShowNumber n) shows values counts lets later numbers glues shares shorts ends groups behind = absurd (counts n refl)
put_alone page c (effect.Let n s) shows values counts lets later numbers glues shares shorts ends groups behind = absurd (lets n s refl)
put_alone page c (effect.FutureLet n s t) shows values counts lets later numbers glues shares shorts ends groups behind = absurd (later n s t refl)
put_alone page c (effect.SetNumber l value) shows values counts lets later numbers glues shares shorts ends groups behind = absurd (numbers l value refl)
put_alone page c (effect.SetGlue l g) shows values counts lets later numbers glues shares shorts ends groups behind = absurd (glues l g refl)
put_alone page c (effect.ShareList l m) shows values counts lets later numbers glues shares shorts ends groups behind = absurd (shares l m refl)
put_alone page c (effect.Shorthand n h) shows values counts lets later numbers glues shares shorts ends groups behind = absurd (shorts n h refl)
put_alone page c effect.Unassigned shows values counts lets later numbers glues shares shorts ends groups behind = absurd (ends refl)
put_alone page c (effect.AfterGroup s) shows values counts lets later numbers glues shares shorts ends groups behind = absurd (groups s refl)
put_alone page c (effect.AfterAssignment s) shows values counts lets later numbers glues shares shorts ends groups behind = absurd (behind s refl)
put_alone page c x shows values counts lets later numbers glues shares shorts ends groups behind = refl
