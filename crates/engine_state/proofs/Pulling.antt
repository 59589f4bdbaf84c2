-- What becomes of what was pulled.
use Rattle.std.proofs.Common.{◌≡◌, ℕ, ◌+◌, ◌<◌, List, [], ◌∷◌, ◌++◌, refl, sym, ap, ◌∙◌, subst, Bool, true, false, arith, drop}
use Rattle.std.specs.Prelude.{Option, Some, None, codes}
use Rattle.std.proofs.lemmas.List.{append-nil, length-append}
use Rattle.std.proofs.lemmas.List.Sums.{sum_by-cons, sum_by-append}
use Rattle.tex_syntax.specs.declared.words.Want.{Want}
use Rattle.tex_syntax.specs.declared.words.Outcome.{Outcome}
use Rattle.tex_syntax.specs.declared.words.Report.TheVariants as reports
use Rattle.tex_syntax.specs.declared.words.Want.TheVariants as asks
use Rattle.tex_defs.specs.declared.Token.{Token}
use Rattle.tex_defs.specs.declared.Seen.{Seen}
use Rattle.tex_defs.specs.declared.Sizes.{Sizes}
use Rattle.tex_defs.specs.declared.Full.{Full}
use Rattle.tex_defs.specs.declared.Table.TheVariants.{InputStackSize}
use Rattle.tex_defs.specs.Places.{World}
use Rattle.plain_tokens.specs.Puts.{Item, Text, First, Later, Gap, Put as PutList, without_ended, unless_ended, passed, next_item, top_item, first_item, put_levels, levels_of}
use Rattle.plain_tokens.specs.Lines.{first_line}
use Rattle.plain_tokens.specs.Pending.{Pending, Progress, Begun as BegunFile, Closed, Pulled, TokenFrom, LexemeFrom, LineTaken, InvalidMet, FileOver, NothingLeft, end_token_lists, pulled, after_pull, with_end, from_front, from_list, from_line, from_file, from_begun, all_puts, outer_puts}
use Rattle.plain_tokens.specs.Lex.{Lexeme, Character, ActiveName, SingleName, EmptyName, WordName, ParName, Lexed, Gives, Invalid, UsedUp, lexed}
use Rattle.plain_tokens.specs.Lookup.{name_number, token_of, joins, new_among, new_name}
use Rattle.tex_defs.specs.declared.Meaning.{Meaning}
use Rattle.plain_tokens.specs.Tokens.{is_outer}
use Rattle.plain_tokens.specs.Meanings.{seen, met as met_token}
use Rattle.plain_readings.specs.Readings.{Reading}
use Rattle.plain_readings.specs.Scanning.{Scanning, scanning}
use Rattle.plain_machine.specs.declared.broken.Broken.{Broken}
use Rattle.plain_machine.specs.declared.broken.Broken.TheVariants as broken
use Rattle.plain_machine.specs.States.{State, Move, Handed, Taken, ListsEnded, Skipped, FileClosed, Entered, made}
use Rattle.plain_tokens.specs.Tables.{is_put, Demand, level, opened_level, begun_files, next_line, refused, full, new_name as name_demands}
use Rattle.plain_machine.specs.Demands.{refusal}
use Rattle.plain_machine.specs.Plan.{Page, handed, met, entered, at_line, checked, reported}
use Rattle.equivalents.specs.Groups.{Groups}
use Rattle.equivalents.specs.Parameters.{end_of_line}
use Rattle.plain_machine.specs.Numbers.{Tied, pending_of, pulled_of}
use Rattle.plain_machine.specs.Runs.{steps}
use Rattle.plain_machine.specs.Does.{Did}
use Rattle.plain_machine.proofs.Doing.{did_join, did_one, wrote_none}
use Rattle.plain_machine.proofs.Renumbering.{settle_of, next_item_of, opened_level_of, next_line_of, pulled_same, met_of}
use Rattle.plain_machine.proofs.GroupNumbers.{entered_of}
use Rattle.plain_machine.proofs.Ties.{put_settle, put_pulled}
use Rattle.plain_machine.proofs.Settling.{pulled_settled, passed_settled}
use Rattle.plain_machine.proofs.Silent.{Lighter, lighter}
use Rattle.world_io.specs.Contents.{FilesTold, SinkTold, world}
use Rattle.input_state.specs.Stored.{Stored, KeepsShared, gathered}
use Rattle.input_state.specs.Reads.{Pulls, ReadsLexeme, TakesLine, step_demands, pull_refusal}
use Rattle.input_state.specs.declared.answer.Pulled as answers
use Rattle.input_state.specs.declared.answer.Pulled.TheVariants as answer
use Rattle.line_lexer.specs.declared.Lexed as answered
use Rattle.reading_frames.specs.Stack.{Stack, asks_in}
use Rattle.reading_frames.specs.Weights.{stack_weight, frames_weight}
use Rattle.input_state.specs.declared.answer.Call.{Call}
use Rattle.input_state.specs.Callings.{Calling, call_in}
use Rattle.engine_state.specs.declared.engine.Engine.{Engine}
use Rattle.engine_state.specs.declared.outcome.Ruled.{Ruled}
use Rattle.engine_state.specs.declared.outcome.Ruled.TheVariants.{Step, Free, Halted}
use Rattle.engine_state.specs.declared.outcome.Last.TheVariants as last
use Rattle.engine_state.specs.Begins.{last_moves}
use Rattle.plain_machine.specs.Weights.{pending_weight}
use Rattle.engine_state.specs.Steps.{IsSkipped, NextStepsIf, next_met, next_free, readings_weight, weight, asked_by}
use Rattle.engine_state.specs.declared.outcome.Next.{Next}
use Rattle.engine_state.specs.Book.{Book}
use Rattle.plain_readings.specs.Weights.{act_frame, ask_weight, behind_weight}
use Rattle.engine_state.specs.Calls.{AllStand, MacroStands, ReadingsStand, asks_of}
use Rattle.engine_state.specs.Entering.{with_names, EntryFits, EntryRefused}
use Rattle.engine_state.specs.Stands.{IsSized, IsSound, SameStore, SameFrames, state_of, page_of}
use Rattle.engine_state.specs.CutReadings.{CutsIn}
use Rattle.engine_state.specs.Rules.{world_of, onward_of, enters_of, scanning_of, token_moves, name_moves, WantsHere, Takes, Cuts, Went, Meets, Nexts, DoesOnward}
use Rattle.engine_state.proofs.CallKept.{all_still}
use Rattle.engine_state.proofs.Cutting.{cuts_by, later_cuts, full_cuts}
use Rattle.engine_state.proofs.CuttingReadings.{in_by, later_in}
use Rattle.engine_state.proofs.Storing.{store_with, sound_still}
use Rattle.engine_state.proofs.Cells.{meaning_more, seen_more, entered_length, lists_entered, inner_new}
use Rattle.engine_state.proofs.Joining.{IsQuiet, quiet_here, went_by, onward_join}
use Rattle.engine_state.proofs.Coming.{meets_by, meets_later, next_by, next_later, next_freely}
use Rattle.rows.specs.Readings.{Ask}

-- AN ENGINE THAT HAS WRITTEN

-- a token that isn't the name of an \outer macro goes on
inner_meets : (page : Page) (o : Option Scanning) (onward : Seen → List Move) (x : Seen) → is_outer x.meaning ≡ false → met page o onward x ≡ onward x
inner_meets page o onward x is = rw is refl

-- a token of the line is no marked name
lexed_met : (cells : List (Meaning (Option ℕ))) (enters : Bool) (names : List (List ℕ)) (x : Lexeme) → met_token cells (token_of enters names x) ≡ seen cells (token_of enters names x)
lexed_met cells enters names (WordName bytes) = refl
lexed_met cells enters names ParName = refl
lexed_met cells enters names (Character category code) = refl
lexed_met cells enters names (ActiveName code) = refl
lexed_met cells enters names (SingleName code) = refl
lexed_met cells enters names EmptyName = refl

-- NAMES: at most one joins them, and none where the reading enters none

abbrev pub FewNames : List (List ℕ) → Type 0
FewNames [] = Unit {0}
FewNames (n ∷ []) = Unit {0}
FewNames (n ∷ m ∷ ns) = ⊥

few_joins : (bytes : List ℕ) (o : Option ℕ) → FewNames (joins bytes o)
few_joins bytes None = tt
few_joins bytes (Some number) = tt

few_among : (enters : Bool) (names : List (List ℕ)) (bytes : List ℕ) → FewNames (new_among enters names bytes)
few_among true names bytes = few_joins bytes (name_number names bytes)
few_among false names bytes = tt

pub few_names : (enters : Bool) (names : List (List ℕ)) (x : Lexeme) → FewNames (new_name enters names x)
few_names enters names (WordName bytes) = few_among enters names bytes
few_names enters names ParName = few_among enters names (codes "par")
few_names enters names x = tt

none_new : (names : List (List ℕ)) (x : Lexeme) → new_name false names x ≡ []
none_new names (WordName bytes) = refl
none_new names ParName = refl
none_new names x = refl

-- none of them
pub none_names : (new : List (List ℕ)) (e : Engine) → new ≡ [] → with_names new e ≡ e
none_names new e none =
    ap (λ (ns : List (List ℕ)). with_names ns e) none
    ∙ ap (λ (names : List (List ℕ)). record e { names = record e.names { names = names } }) (append-nil e.names.names)

entered_none : (new : List (List ℕ)) → steps (entered new) ≡ 0
entered_none [] = refl
entered_none (n ∷ ns) = refl

module _ (sizes : Sizes) (e : Engine) (book : Book) where
  pub did_entered : (new : List (List ℕ)) (w : World) → FewNames new → IsSized sizes e → EntryFits e.names new → Did sizes (state_of e book) (state_of (with_names new e) book) w w (entered new)
  did_entered [] w few sized fits = record { state = ap (λ (x : Engine). state_of x book) (sym (none_names [] e refl)); fits = tt; written = wrote_none w }
  did_entered (n ∷ []) w few sized fits =
      did_one sizes (Entered n) _ _ w w (subst (λ (x : Sizes). refused x (name_demands n e.names.names e.names.others) ≡ None) sized.names fits)
      (ap (λ (g : Groups). record (state_of (with_names (n ∷ []) e) book) { groups = g }) (entered_of book.number e.input.groups)) (quiet_here (Entered n) w tt)
  did_entered (n ∷ m ∷ ns) w few sized fits = absurd few

  pub cut_entered : (e' : Engine) (new : List (List ℕ)) (w : World) (rest : List Move) (full : Full) → IsSized sizes e → e' ≡ e → EntryRefused e.names new full →
      Cuts sizes (state_of e book) e' book w w (entered new ++ rest) (broken.Full full)
  cut_entered e' [] w rest full sized same r = absurd r
  cut_entered e' (n ∷ ns) w rest full sized same r =
      full_cuts sizes (state_of e book) e' book w (Entered n) rest full (broken.Full full) refl
      (subst (λ (x : Sizes). refused x (name_demands n e.names.names e.names.others) ≡ Some full) sized.names r) (ap (λ (x : Engine). state_of x book) (sym same))

  -- each name has its location
  sized_names : (new : List (List ℕ)) → IsSized sizes e → IsSized sizes (with_names new e)
  sized_names new h = record {
    few_reports = h.few_reports;
    own = h.own;
    readings = h.readings;
    conditionals = h.conditionals;
    input = h.input;
    names = h.names;
    located = omega (arith, h.located, entered_length new e.input.groups, length-append e.names.names new);
  }

  pub sound_names : (new : List (List ℕ)) → IsSound sizes e book.number book.all_lists → IsSound sizes (with_names new e) book.number book.all_lists
  sound_names new h = record {
    sized = sized_names new h.sized;
    tied = subst (λ (held : List ℕ). Tied book.number book.all_lists held (all_puts e.input.pending) e.input.lists) (sym (lists_entered new e.input.groups)) h.tied;
    bodies = h.bodies;
  }

  -- a call is that of the same macro
  macro_names : (new : List (List ℕ)) (text : List Token) (c : Option Call) (work : List Reading) → MacroStands c e book.number text work → MacroStands c (with_names new e) book.number text work
  macro_names new text None work m = tt
  macro_names new text (Some c) [] m = m
  macro_names new text (Some c) (r ∷ rs) m =
      record { long = m.long; outer = m.outer; id = m.id; meaning = meaning_more new e.input.groups c.name ∙ m.meaning; list = m.list; kind = m.kind; places = m.places }

  all_names : (new : List (List ℕ)) → ReadingsStand e book.number book.work → ReadingsStand (with_names new e) book.number book.work
  all_names new h = record {
    readings = record { text = h.readings.text; frames = record { frames = h.readings.frames.frames; shallow = h.readings.frames.shallow }; far = h.readings.far };
    macro = macro_names new h.readings.text (call_in e.input.call) book.work h.macro;
  }

  pub takes_names : (want : Option Want) (new : List (List ℕ)) → Takes sizes want e book → Takes sizes want (with_names new e) book
  takes_names want new h = (h.0, record { sound = sound_names new h.1.sound; idle = h.1.idle; all = all_names new h.1.all })

  module _ (want : Option Want) (x : Lexeme) (t : Token) (is : t ≡ token_of (enters_of want) e.names.names x) (sound : IsSound sizes e book.number book.all_lists) where
    abbrev new : List (List ℕ)
    new = new_name (enters_of want) e.names.names x

    abbrev named : Engine
    named = with_names new e

    -- what becomes of a token there
    abbrev moves_in : Engine → Token → List Move
    moves_in y u = token_moves (page_of y book) (scanning_of y book.work) (onward_of (page_of y book) want book.work) u

    meant : (cells : List (Meaning (Option ℕ))) → met_token cells t ≡ seen cells t
    meant cells = ap (met_token cells) is ∙ lexed_met cells (enters_of want) e.names.names x ∙ sym (ap (seen cells) is)

    met_now : met_token (page_of e book).now.meanings t ≡ met_token (page_of named book).now.meanings t
    met_now = met_of book.number e.input.groups.now.meanings t ∙ meant e.input.groups.now.meanings ∙ sym (seen_more new e.input.groups t) ∙ sym (meant named.input.groups.now.meanings) ∙ sym (met_of book.number named.input.groups.now.meanings t)

    entering : (new ≡ [] → ⊥) → enters_of want ≡ true
    entering some = by_enters (enters_of want) some where
      by_enters : (b : Bool) → (new_name b e.names.names x ≡ [] → ⊥) → b ≡ true
      by_enters true some = refl
      by_enters false some = absurd (some (none_new e.names.names x))

    raw_onward : (p q : Page) (w : Option Want) (y : Seen) → enters_of w ≡ true → onward_of p w book.work y ≡ onward_of q w book.work y
    raw_onward p q None y h = cc
    raw_onward p q (Some asks.Raw) y h = refl
    raw_onward p q (Some asks.Unentered) y h = cc
    raw_onward p q (Some asks.Expanded) y h = cc
    raw_onward p q (Some asks.Copied) y h = cc
    raw_onward p q (Some asks.Nonblank) y h = cc
    raw_onward p q (Some asks.Command) y h = cc

    inner_here : (new ≡ [] → ⊥) → is_outer (met_token (page_of e book).now.meanings t).meaning ≡ false
    inner_here some =
        ap (λ (y : Seen). is_outer y.meaning) (met_of book.number e.input.groups.now.meanings t ∙ meant e.input.groups.now.meanings) ∙ ap (λ (u : Token). is_outer (seen e.input.groups.now.meanings u).meaning) is
        ∙ inner_new e.input.groups.now.meanings e.names.names sound.sized.located (enters_of want) x some

    -- the name is new, or none is
    some_now : (new ≡ [] → ⊥) → moves_in e t ≡ moves_in named t
    some_now some =
        inner_meets (page_of e book) (scanning_of e book.work) (onward_of (page_of e book) want book.work) (met_token (page_of e book).now.meanings t) (inner_here some)
        ∙ raw_onward (page_of e book) (page_of named book) want (met_token (page_of e book).now.meanings t) (entering some)
        ∙ ap (onward_of (page_of named book) want book.work) met_now
        ∙ sym (inner_meets (page_of named book) (scanning_of named book.work) (onward_of (page_of named book) want book.work) (met_token (page_of named book).now.meanings t) (ap (λ (y : Seen). is_outer y.meaning) (sym met_now) ∙ inner_here some))

    by_new : (ns : List (List ℕ)) → new ≡ ns → moves_in e t ≡ moves_in named t
    by_new [] none = ap (λ (y : Engine). moves_in y t) (sym (none_names new e none))
    by_new (n ∷ ns) one = some_now (λ none. cc (sym one ∙ none))

    -- what becomes of it doesn't hang on the name that joins the others
    moves_now : (e1 : Engine) → e1 ≡ named → moves_in e (token_of (enters_of want) e.names.names x) ≡ moves_in e1 t
    moves_now e1 after = ap (moves_in e) (sym is) ∙ by_new new refl ∙ ap (λ (y : Engine). moves_in y t) (sym after)

    pub takes_named : (e1 : Engine) → e1 ≡ named → Takes sizes want e book → Takes sizes want e1 book
    takes_named e1 after h = subst (λ (y : Engine). Takes sizes want y book) (sym after) (takes_names want new h)

    named_did : (e1 : Engine) (w : World) → e1 ≡ named → EntryFits e.names new → Did sizes (state_of e book) (state_of e1 book) w w (entered new)
    named_did e1 w after fits = subst (λ (y : Engine). Did sizes (state_of e book) (state_of y book) w w (entered new)) (sym after) (did_entered new w (few_names (enters_of want) e.names.names x) sound.sized fits)

    pub name_meets : (e1 e2 : Engine) (f : FilesTold) (s : SinkTold) (w' : World) (met : Option Seen) → e1 ≡ named → EntryFits e.names new → Meets sizes want (state_of e1 book) e2 book (world_of f s e1) w' (moves_in e1 t) met →
        Meets sizes want (state_of e book) e2 book (world_of f s e) w' (name_moves (page_of e book) (scanning_of e book.work) (enters_of want) (onward_of (page_of e book) want book.work) x) met
    name_meets e1 e2 f s w' met after fits h =
        let here : Meets sizes want (state_of e1 book) e2 book (world_of f s e) w' (moves_in e1 t) met = subst (λ (b : Bool). Meets sizes want (state_of e1 book) e2 book (world f s b) w' (moves_in e1 t) met) (ap (λ (y : Engine). y.in_line) after) h in
        meets_later sizes want (state_of e book) (state_of e1 book) e2 book (world_of f s e) (world_of f s e) w' (entered new) _ met (ap (λ (y : Engine). y.reports) after) (named_did e1 (world_of f s e) after fits) (entered_none new)
        (meets_by sizes want _ e2 book (world_of f s e) w' _ _ met (moves_now e1 after) here)

    pub name_cuts : (e1 e2 : Engine) (f : FilesTold) (s : SinkTold) (w' : World) (b : Broken) → e1 ≡ named → EntryFits e.names new → CutsIn sizes (state_of e1 book) e2 (world_of f s e1) w' (moves_in e1 t) b →
        CutsIn sizes (state_of e book) e2 (world_of f s e) w' (name_moves (page_of e book) (scanning_of e book.work) (enters_of want) (onward_of (page_of e book) want book.work) x) b
    name_cuts e1 e2 f s w' b after fits h =
        let here : CutsIn sizes (state_of e1 book) e2 (world_of f s e) w' (moves_in e1 t) b = subst (λ (c : Bool). CutsIn sizes (state_of e1 book) e2 (world f s c) w' (moves_in e1 t) b) (ap (λ (y : Engine). y.in_line) after) h in
        later_in sizes _ (state_of e1 book) e2 (world_of f s e) (world_of f s e) w' (entered new) _ b (named_did e1 (world_of f s e) after fits)
        (in_by sizes _ e2 (world_of f s e) w' _ _ b (moves_now e1 after) here)

  -- the name has no room
  pub name_full : (want : Option Want) (scanned : Option Scanning) (x : Lexeme) (e1 : Engine) (f : FilesTold) (s : SinkTold) (full : Full) → IsSized sizes e → e1 ≡ e → EntryRefused e.names (new_name (enters_of want) e.names.names x) full →
      Cuts sizes (state_of e book) e1 book (world_of f s e) (world_of f s e1) (name_moves (page_of e book) scanned (enters_of want) (onward_of (page_of e book) want book.work) x) (broken.Full full)
  name_full want scanned x e1 f s full sized same r =
      subst (λ (y : Engine). Cuts sizes (state_of e book) y book (world_of f s e) (world_of f s y) (name_moves (page_of e book) scanned (enters_of want) (onward_of (page_of e book) want book.work) x) (broken.Full full)) (sym same)
      (cut_entered e (new_name (enters_of want) e.names.names x) (world_of f s e) _ full sized refl r)

-- THE NEXT READING

-- the finished lists in front are at no level
level_top : (p : PutList) (xs : List Item) (ps : List PutList) → p.items ≡ xs → put_levels (without_ended ps) ≡ put_levels ps → put_levels (unless_ended p xs (without_ended ps) ps) ≡ put_levels (p ∷ ps)
level_top p [] ps is h = omega (arith, h, ap levels_of is, sum_by-cons (λ (q : PutList). levels_of q.items) p ps)
level_top p (x ∷ xs) ps is h = refl

levels_settled : (ps : List PutList) → put_levels (without_ended ps) ≡ put_levels ps
levels_settled [] = refl
levels_settled (p ∷ ps) = level_top p p.items ps refl (levels_settled ps)

all_settled : (p : Pending) → put_levels (all_puts (end_token_lists p)) ≡ put_levels (all_puts p)
all_settled p =
    omega (arith, levels_settled p.puts, sum_by-append (λ (q : PutList). levels_of q.items) (without_ended p.puts) (outer_puts p.outer), sum_by-append (λ (q : PutList). levels_of q.items) p.puts (outer_puts p.outer))

same_level : (p : Pending) → level (end_token_lists p) ≡ level p
same_level p = ap (λ (n : ℕ). record { table = InputStackSize; used = n + begun_files p; need = 1 }) (all_settled p)

-- and the next item is the same
opened_same : (p : Pending) (o : Option Item) → opened_level o (end_token_lists p) ≡ opened_level o p
opened_same p (Some (First t)) = ap (λ (d : Demand). d ∷ []) (same_level p)
opened_same p (Some (Text t)) = refl
opened_same p (Some (Later t)) = refl
opened_same p (Some Gap) = refl
opened_same p None = refl

opened_settled : (p : Pending) → opened_level (next_item (without_ended p.puts)) (end_token_lists p) ≡ opened_level (next_item p.puts) p
opened_settled p = ap (λ (ps : List PutList). opened_level (top_item ps) (end_token_lists p)) (passed_settled p.puts) ∙ opened_same p (next_item p.puts)

-- a character or a name comes where none is left
list_done : (categories : List ℕ) (p : Pending) (y : PutList) (ys : List PutList) (items : List Item) (x : Lexeme) (q : Pending) → from_list categories p y ys items ≡ LexemeFrom x q → first_item items ≡ None
list_done categories p y ys [] x q h = refl
list_done categories p y ys (i ∷ items) x q h = cc

front_done : (categories : List ℕ) (p : Pending) (ps : List PutList) (x : Lexeme) (q : Pending) → from_front categories p ps ≡ LexemeFrom x q → top_item ps ≡ None
front_done categories p [] x q h = refl
front_done categories p (y ∷ ys) x q h = list_done categories p y ys y.items x q h

lexeme_opens : (categories : List ℕ) (p : Pending) (x : Lexeme) (q : Pending) → pulled categories p ≡ LexemeFrom x q → opened_level (next_item (without_ended p.puts)) (end_token_lists p) ≡ []
lexeme_opens categories p x q h = opened_settled p ∙ ap (λ (o : Option Item). opened_level o p) (front_done categories p (passed p.puts) x q h)

-- a token, a character or name, or an invalid character leaves the line's number
abbrev KeepsNumber : Pending → Pulled → Type 0
KeepsNumber p (TokenFrom t q) = q.number ≡ p.number
KeepsNumber p (LexemeFrom x q) = q.number ≡ p.number
KeepsNumber p (InvalidMet q) = q.number ≡ p.number
KeepsNumber p r = Unit {0}

number_begun : (p : Pending) (ends : Bool) (rest : List ℕ) → KeepsNumber p (from_begun p ends rest)
number_begun p true rest = tt
number_begun p false [] = tt
number_begun p false (c ∷ cs) = tt

number_file : (p : Pending) (f : Progress) → KeepsNumber p (from_file p f)
number_file p BegunFile = number_begun p p.ends p.rest
number_file p Closed = tt

number_line : (p : Pending) (l : Lexed) → KeepsNumber p (from_line p l)
number_line p (Gives x state line) = refl
number_line p (Invalid state line) = refl
number_line p UsedUp = number_file p p.file

number_list : (categories : List ℕ) (p : Pending) (x : PutList) (ps : List PutList) (is : List Item) → KeepsNumber p (from_list categories p x ps is)
number_list categories p x ps [] = number_line p (lexed categories p.lex p.line)
number_list categories p x ps (i ∷ is) = refl

number_kept : (categories : List ℕ) (p : Pending) (ps : List PutList) → KeepsNumber p (from_front categories p ps)
number_kept categories p [] = number_line p (lexed categories p.lex p.line)
number_kept categories p (x ∷ ps) = number_list categories p x ps x.items

-- under other numbers of the macros
module _ (number : ℕ → ℕ) (p : Pending) where
  opened_same_of : opened_level (next_item (without_ended (pending_of number p).puts)) (end_token_lists (pending_of number p)) ≡ opened_level (next_item p.puts) p
  opened_same_of =
      opened_settled (pending_of number p) ∙ ap (λ (x : Option Item). opened_level x (pending_of number p)) (next_item_of number p.puts) ∙ opened_level_of number (next_item p.puts) p

  line_same_of : next_line (end_token_lists (pending_of number p)) ≡ next_line p
  line_same_of = next_line_of number p

  pulled_as : (categories : List ℕ) (r : Pulled) → pulled categories p ≡ r → pulled categories (pending_of number p) ≡ pulled_of number r
  pulled_as categories r is = pulled_same number categories p ∙ ap (pulled_of number) is

-- whether the next token has room
token_demands : (sizes : Sizes) (e : Engine) (book : Book) (t : Token) (o : Option Full) → refused e.input.sizes (opened_level (next_item e.input.pending.puts) e.input.pending) ≡ o → e.input.sizes ≡ sizes →
    refusal sizes (Handed t) (record (state_of e book) { pending = end_token_lists (pending_of book.number e.input.pending) }) ≡ o
token_demands sizes e book t o fits sized =
    ap (refused sizes) (opened_same_of book.number e.input.pending) ∙ ap (λ (x : Sizes). refused x (opened_level (next_item e.input.pending.puts) e.input.pending)) (sym sized) ∙ fits

pub token_fits : (sizes : Sizes) (e : Engine) (book : Book) (t : Token) → refused e.input.sizes (opened_level (next_item e.input.pending.puts) e.input.pending) ≡ None → e.input.sizes ≡ sizes →
    refusal sizes (Handed t) (record (state_of e book) { pending = end_token_lists (pending_of book.number e.input.pending) }) ≡ None
token_fits sizes e book t fits sized = token_demands sizes e book t None fits sized

-- no body is put
fewer_by : (categories : List ℕ) (p q : Pending) (r : Pulled) → pulled categories p ≡ r → after_pull p r ≡ q → (n : ℕ) → is_put n (all_puts q) ≡ true → is_put n (all_puts p) ≡ true
fewer_by categories p q r is after n h = put_pulled n p categories (subst (λ (x : Pending). is_put n (all_puts x) ≡ true) (sym (ap (after_pull p) is ∙ after)) h)

-- The engine behind a reading from what is pending.
module _ (e : Engine) (i : Stored) where
  -- less is pending
  pub lighter_skip : pulled e.input.groups.now.categories e.input.pending ≡ InvalidMet i.pending → pending_weight i.pending < pending_weight e.input.pending
  lighter_skip is = subst (Lighter e.input.pending) is (lighter e.input.groups.now.categories e.input.pending)

  pub lighter_close : pulled e.input.groups.now.categories e.input.pending ≡ FileOver i.pending → pending_weight i.pending < pending_weight e.input.pending
  lighter_close is = subst (Lighter e.input.pending) is (lighter e.input.groups.now.categories e.input.pending)

pub frames_now : (e : Engine) (i : Stored) → i ≡ record e.input { pending = i.pending; buffer = i.buffer; lists = i.lists } → SameFrames e (record e { input = i })
frames_now e i others = record { readings = refl; lists = ap (λ (x : Stored). x.builds) others; call = ap (λ (x : Stored). x.call) others }

module _ (sizes : Sizes) (e : Engine) (i : Stored) (others : i ≡ record e.input { pending = i.pending; buffer = i.buffer; lists = i.lists }) where
  abbrev now : Engine
  now = record e { input = i }

  -- the input keeps its macros
  pub pull_store : (a : answers.Pulled) → Pulls (pulled e.input.groups.now.categories e.input.pending) a e.input i → KeepsShared e.input i → SameStore e.input i
  pull_store a h all_lists = store_with e.input i i.pending e.input.making e.input.builds i.buffer others (fewer a h) all_lists where
    fewer : (a : answers.Pulled) → Pulls (pulled e.input.groups.now.categories e.input.pending) a e.input i → (n : ℕ) → is_put n (all_puts i.pending) ≡ true → is_put n (all_puts e.input.pending) ≡ true
    fewer (answer.Token t) h = fewer_by e.input.groups.now.categories e.input.pending i.pending (TokenFrom t i.pending) h.0 refl
    fewer (answer.Lexeme l) h = fewer_by e.input.groups.now.categories e.input.pending i.pending (LexemeFrom h.lexeme i.pending) h.pulls refl
    fewer answer.Taken h = λ n put.
        fewer_by e.input.groups.now.categories e.input.pending h.0.next (LineTaken (first_line e.input.pending.rest) h.0.next) h.0.is refl n
        (subst (λ (x : Pending). is_put n (all_puts x) ≡ true) h.0.ended put)
    fewer answer.Invalid h = fewer_by e.input.groups.now.categories e.input.pending i.pending (InvalidMet i.pending) h refl
    fewer answer.FileOver h = fewer_by e.input.groups.now.categories e.input.pending i.pending (FileOver i.pending) h refl
    fewer answer.Nothing h = λ n put. put_settle n e.input.pending (subst (λ (x : Pending). is_put n (all_puts x) ≡ true) h.1 put)

  pub stands_now : (book : Book) → SameStore e.input i → AllStand sizes e book → AllStand sizes now book
  stands_now book store st = all_still sizes e now book (frames_now e i others) store (sound_still sizes e now book.number book.all_lists refl refl refl refl refl store st.sound) (ap (λ (x : Stored). x.making) others ∙ st.idle) st

  pub takes_still : (want : Option Want) (book : Book) → SameStore e.input i → Takes sizes want e book → Takes sizes want now book
  takes_still want book store h = (
    subst (λ (o : Option Ask). WantsHere o want) (sym (ap (λ (x : Stored). asked_by (call_in x.call) x.call (asks_in e.readings.frames x.builds)) others)) h.0,
    stands_now book store h.1,
  )

  -- the text that is read is the same
  pub scanning_still : (work : List Reading) → scanning_of now work ≡ scanning_of e work
  scanning_still work = ap (λ (x : Stored). scanning work (gathered x)) others

  page_at : (book : Book) → i.pending.number ≡ e.input.pending.number → page_of now book ≡ page_of e book
  page_at book is = ap (λ (x : Stored). page_of (record e { input = x }) book) others ∙ ap (λ (n : ℕ). record (page_of e book) { line = n }) is

  pub token_page : (book : Book) (t : Token) → pulled e.input.groups.now.categories e.input.pending ≡ TokenFrom t i.pending → page_of now book ≡ page_of e book
  token_page book t is = page_at book (subst (KeepsNumber e.input.pending) is (number_kept e.input.groups.now.categories e.input.pending (passed e.input.pending.puts)))

  pub lexeme_page : (book : Book) (x : Lexeme) → pulled e.input.groups.now.categories e.input.pending ≡ LexemeFrom x i.pending → page_of now book ≡ page_of e book
  lexeme_page book x is = page_at book (subst (KeepsNumber e.input.pending) is (number_kept e.input.groups.now.categories e.input.pending (passed e.input.pending.puts)))

  pub invalid_page : (book : Book) → pulled e.input.groups.now.categories e.input.pending ≡ InvalidMet i.pending → page_of now book ≡ page_of e book
  invalid_page book is = page_at book (subst (KeepsNumber e.input.pending) is (number_kept e.input.groups.now.categories e.input.pending (passed e.input.pending.puts)))

  pub settled_page : (book : Book) → i.pending ≡ end_token_lists e.input.pending → page_of now book ≡ page_of e book
  settled_page book is = page_at book (ap (λ (p : Pending). p.number) is)

  -- a file has gone: the line is that of the file beneath
  pub file_gone : (book : Book) → page_of now book ≡ at_line i.pending.number (page_of e book)
  file_gone book = ap (λ (x : Stored). page_of (record e { input = x }) book) others

  -- what becomes of what was pulled
  pub token_moves_still : (book : Book) (want : Option Want) (t : Token) → page_of now book ≡ page_of e book →
      token_moves (page_of e book) (scanning_of e book.work) (onward_of (page_of e book) want book.work) t ≡ token_moves (page_of now book) (scanning_of now book.work) (onward_of (page_of now book) want book.work) t
  token_moves_still book want t page =
      ap (λ (p : Page). token_moves p (scanning_of e book.work) (onward_of p want book.work) t) (sym page) ∙ ap (λ (o : Option Scanning). token_moves (page_of now book) o (onward_of (page_of now book) want book.work) t) (sym (scanning_still book.work))

  pub name_moves_still : (book : Book) (want : Option Want) (x : Lexeme) → page_of now book ≡ page_of e book →
      name_moves (page_of e book) (scanning_of e book.work) (enters_of want) (onward_of (page_of e book) want book.work) x ≡ name_moves (page_of now book) (scanning_of now book.work) (enters_of want) (onward_of (page_of now book) want book.work) x
  name_moves_still book want x page =
      ap (λ (p : Page). name_moves p (scanning_of e book.work) (enters_of want) (onward_of p want book.work) x) (sym page)
      ∙ ap (λ (o : Option Scanning). name_moves (page_of now book) o (enters_of want) (onward_of (page_of now book) want book.work) x) (sym (scanning_still book.work))

  pub checked_still : (book : Book) → page_of now book ≡ at_line i.pending.number (page_of e book) → checked (at_line i.pending.number (page_of e book)) (scanning_of e book.work) ≡ checked (page_of now book) (scanning_of now book.work)
  checked_still book page = ap (λ (p : Page). checked p (scanning_of e book.work)) (sym page) ∙ ap (λ (o : Option Scanning). checked (page_of now book) o) (sym (scanning_still book.work))

  module _ (book : Book) (w : World) where
    -- what is pending to the machine
    abbrev here : Pending
    here = pending_of book.number e.input.pending

    abbrev next : Pending
    next = pending_of book.number i.pending

    abbrev pub at_settled : State
    at_settled = record (state_of e book) { pending = end_token_lists here }

    pub at_behind : (q : Pending) → next ≡ q → record (state_of e book) { pending = q } ≡ state_of now book
    at_behind q is = ap (λ (x : Pending). record (state_of e book) { pending = x }) (sym is) ∙ ap (λ (x : Stored). state_of (record e { input = x }) book) (sym others)

    pub did_settled : Did sizes (state_of e book) at_settled w w (ListsEnded ∷ [])
    did_settled = did_one sizes ListsEnded _ _ w w refl refl (quiet_here ListsEnded w tt)

    -- and then the move that takes what was pulled, so much changed
    did_change : (f : Pending → Pending) (m : Move) (p : Pulled) → pulled e.input.groups.now.categories here ≡ p → f (after_pull (end_token_lists here) p) ≡ next → IsQuiet m → refusal sizes m at_settled ≡ None →
        made m at_settled ≡ record (state_of e book) { pending = f (after_pull (end_token_lists here) (pulled e.input.groups.now.categories (end_token_lists here))) } → Did sizes (state_of e book) (state_of now book) w w (ListsEnded ∷ m ∷ [])
    did_change f m p is after q fits makes =
        let onto : next ≡ f (after_pull (end_token_lists here) (pulled e.input.groups.now.categories (end_token_lists here))) = sym (ap (λ (x : Pulled). f (after_pull (end_token_lists here) x)) (pulled_settled e.input.groups.now.categories here ∙ is) ∙ after) in
        did_join sizes _ _ _ w w w (ListsEnded ∷ []) (m ∷ []) did_settled (did_one sizes m _ _ w w fits (makes ∙ at_behind _ onto) (quiet_here m w q))

    did_pull : (m : Move) (p : Pulled) → pulled e.input.groups.now.categories here ≡ p → after_pull (end_token_lists here) p ≡ next → IsQuiet m → refusal sizes m at_settled ≡ None →
        made m at_settled ≡ record (state_of e book) { pending = after_pull (end_token_lists here) (pulled e.input.groups.now.categories (end_token_lists here)) } → Did sizes (state_of e book) (state_of now book) w w (ListsEnded ∷ m ∷ [])
    did_pull m p is after q fits makes = did_change (λ x. x) m p is after q fits makes

    module _ (page : Page) (want : Option Want) (scanned : Option Scanning) (onward : Seen → List Move) where
      abbrev plan : List Move
      plan = handed page (enters_of want) scanned onward (pulled e.input.groups.now.categories here)

      -- a token of a list
      module _ (t : Token) (is : pulled e.input.groups.now.categories e.input.pending ≡ TokenFrom t i.pending) (fits : refusal sizes (Handed t) at_settled ≡ None) where
        token_is : pulled e.input.groups.now.categories here ≡ TokenFrom t next
        token_is = pulled_as book.number e.input.pending e.input.groups.now.categories (TokenFrom t i.pending) is

        token_plan : plan ≡ ListsEnded ∷ Handed t ∷ token_moves page scanned onward t
        token_plan = rw token_is refl

        token_did : Did sizes (state_of e book) (state_of now book) w w (ListsEnded ∷ Handed t ∷ [])
        token_did = did_pull (Handed t) (TokenFrom t next) token_is refl tt fits refl

        pub token_nexts : (w' : World) (e2 : Engine) (met : Option Seen) → Meets sizes want (state_of now book) e2 book w w' (token_moves page scanned onward t) met → Nexts sizes want (state_of e book) e2 book w w' plan (next_met met)
        token_nexts w' e2 met h = next_by sizes want _ e2 book w w' _ _ (next_met met) token_plan (next_later sizes want (state_of e book) (state_of now book) e2 book w w w' (ListsEnded ∷ Handed t ∷ []) (token_moves page scanned onward t) met refl token_did refl h)

        pub token_cuts : (w' : World) (e2 : Engine) (b : Broken) → CutsIn sizes (state_of now book) e2 w w' (token_moves page scanned onward t) b → CutsIn sizes (state_of e book) e2 w w' plan b
        token_cuts w' e2 b h = in_by sizes _ e2 w w' _ _ b token_plan (later_in sizes _ (state_of now book) e2 w w w' (ListsEnded ∷ Handed t ∷ []) (token_moves page scanned onward t) b token_did h)

      -- a character or a name of the line
      module _ (x : Lexeme) (is : pulled e.input.groups.now.categories e.input.pending ≡ LexemeFrom x i.pending) where
        abbrev handed_token : Token
        handed_token = token_of (enters_of want) page.names x

        abbrev then_moves : List Move
        then_moves = name_moves page scanned (enters_of want) onward x

        lexeme_is : pulled e.input.groups.now.categories here ≡ LexemeFrom x next
        lexeme_is = pulled_as book.number e.input.pending e.input.groups.now.categories (LexemeFrom x i.pending) is

        lexeme_plan : plan ≡ ListsEnded ∷ Handed handed_token ∷ then_moves
        lexeme_plan = rw lexeme_is refl

        lexeme_did : Did sizes (state_of e book) (state_of now book) w w (ListsEnded ∷ Handed handed_token ∷ [])
        lexeme_did = did_pull (Handed handed_token) (LexemeFrom x next) lexeme_is refl tt (ap (refused sizes) (lexeme_opens e.input.groups.now.categories here x next lexeme_is)) refl

        pub lexeme_nexts : (w' : World) (e2 : Engine) (met : Option Seen) → Meets sizes want (state_of now book) e2 book w w' then_moves met → Nexts sizes want (state_of e book) e2 book w w' plan (next_met met)
        lexeme_nexts w' e2 met h = next_by sizes want _ e2 book w w' _ _ (next_met met) lexeme_plan (next_later sizes want (state_of e book) (state_of now book) e2 book w w w' (ListsEnded ∷ Handed handed_token ∷ []) then_moves met refl lexeme_did refl h)

        pub lexeme_cuts : (w' : World) (e2 : Engine) (b : Broken) → CutsIn sizes (state_of now book) e2 w w' then_moves b → CutsIn sizes (state_of e book) e2 w w' plan b
        lexeme_cuts w' e2 b h = in_by sizes _ e2 w w' _ _ b lexeme_plan (later_in sizes _ (state_of now book) e2 w w w' (ListsEnded ∷ Handed handed_token ∷ []) then_moves b lexeme_did h)

      -- a line is taken
      line_demands : (o : Option Full) → refused e.input.sizes (next_line e.input.pending) ≡ o → e.input.sizes ≡ sizes → refused sizes (next_line (end_token_lists here)) ≡ o
      line_demands o fits sized = ap (refused sizes) (line_same_of book.number e.input.pending) ∙ ap (λ (x : Sizes). refused x (next_line e.input.pending)) (sym sized) ∙ fits

      taken_plan : (line : List ℕ) (q : Pending) → pulled e.input.groups.now.categories e.input.pending ≡ LineTaken line q → plan ≡ ListsEnded ∷ Taken line ∷ []
      taken_plan line q is = rw (pulled_as book.number e.input.pending e.input.groups.now.categories (LineTaken line q) is) refl

      -- it gets its end character
      pub taken_rule : TakesLine (pulled e.input.groups.now.categories e.input.pending) (end_of_line e.input.groups.now) e.input.pending i.pending → refused e.input.sizes (next_line e.input.pending) ≡ None → e.input.sizes ≡ sizes →
          AllStand sizes now book → Went sizes (state_of e book) now w w plan 1
      taken_rule takes fits sized stands =
          let line = first_line e.input.pending.rest in
          went_by sizes _ now w w (ListsEnded ∷ Taken line ∷ []) plan 1 (taken_plan line takes.next takes.is) (record {
            book' = book;
            stands = stands;
            did = did_change (with_end (end_of_line e.input.groups.now)) (Taken line) (LineTaken line (pending_of book.number takes.next))
                (pulled_as book.number e.input.pending e.input.groups.now.categories (LineTaken line takes.next) takes.is) (ap (pending_of book.number) (sym takes.ended)) tt (line_demands None fits sized) refl;
            count = refl;
          })

      -- it has no room
      stays_there : i.pending ≡ end_token_lists e.input.pending → next ≡ end_token_lists here
      stays_there stays = ap (pending_of book.number) stays ∙ sym (settle_of book.number e.input.pending)

      module _ (full : Full) (sized : e.input.sizes ≡ sizes) (stays : i.pending ≡ end_token_lists e.input.pending) where
        line_cuts : (line : List ℕ) (q : Pending) → pulled e.input.groups.now.categories e.input.pending ≡ LineTaken line q → refused e.input.sizes (next_line e.input.pending) ≡ Some full → Cuts sizes (state_of e book) now book w w plan (broken.Full full)
        line_cuts line q is r =
            cuts_by sizes _ now book w w _ _ (broken.Full full) (taken_plan line q is) (later_cuts sizes _ at_settled now book w w w (ListsEnded ∷ []) (Taken line ∷ []) (broken.Full full) did_settled
            (full_cuts sizes at_settled now book w (Taken line) [] full (broken.Full full) refl (line_demands (Some full) r sized) (at_behind _ (stays_there stays))))

        opens_cuts : (t : Token) (q : Pending) → pulled e.input.groups.now.categories e.input.pending ≡ TokenFrom t q → refused e.input.sizes (opened_level (next_item e.input.pending.puts) e.input.pending) ≡ Some full → Cuts sizes (state_of e book) now book w w plan (broken.Full full)
        opens_cuts t q is r =
            let plan_is : plan ≡ ListsEnded ∷ Handed t ∷ token_moves page scanned onward t = rw (pulled_as book.number e.input.pending e.input.groups.now.categories (TokenFrom t q) is) refl in
            let refuses : refusal sizes (Handed t) at_settled ≡ Some full = token_demands sizes e book t (Some full) r sized in
            cuts_by sizes _ now book w w _ _ (broken.Full full) plan_is (later_cuts sizes _ at_settled now book w w w (ListsEnded ∷ []) (Handed t ∷ token_moves page scanned onward t) (broken.Full full) did_settled
            (full_cuts sizes at_settled now book w (Handed t) (token_moves page scanned onward t) full (broken.Full full) refl refuses (at_behind _ (stays_there stays))))

        pub pull_cuts : pull_refusal e.input ≡ Some full → Cuts sizes (state_of e book) now book w w plan (broken.Full full)
        pull_cuts r = by_pulled (pulled e.input.groups.now.categories e.input.pending) refl r where
          by_pulled : (p : Pulled) → pulled e.input.groups.now.categories e.input.pending ≡ p → refused e.input.sizes (step_demands p e.input.pending) ≡ Some full → Cuts sizes (state_of e book) now book w w plan (broken.Full full)
          by_pulled (TokenFrom t q) is r = opens_cuts t q is r
          by_pulled (LexemeFrom x q) is r = absurd cc
          by_pulled (LineTaken line q) is r = line_cuts line q is r
          by_pulled (InvalidMet q) is r = absurd cc
          by_pulled (FileOver q) is r = absurd cc
          by_pulled NothingLeft is r = absurd cc

      -- an invalid character is skipped
      module _ (is : pulled e.input.groups.now.categories e.input.pending ≡ InvalidMet i.pending) where
        skipped_is : pulled e.input.groups.now.categories here ≡ InvalidMet next
        skipped_is = pulled_as book.number e.input.pending e.input.groups.now.categories (InvalidMet i.pending) is

        skipped_plan : plan ≡ ListsEnded ∷ Skipped ∷ reported page reports.InvalidCharacter []
        skipped_plan = rw skipped_is refl

        skipped_did : Did sizes (state_of e book) (state_of now book) w w (ListsEnded ∷ Skipped ∷ [])
        skipped_did = did_pull Skipped (InvalidMet next) skipped_is refl tt refl refl

        pub skipped_nexts : (w' : World) (e2 : Engine) (ruled : Ruled) → DoesOnward sizes (state_of now book) e2 book w w' (reported page reports.InvalidCharacter []) ruled → Nexts sizes want (state_of e book) e2 book w w' plan (next_free ruled)
        skipped_nexts w' e2 ruled h =
            next_by sizes want _ e2 book w w' _ _ (next_free ruled) skipped_plan (next_freely sizes want _ e2 book w w' _ ruled (onward_join sizes (state_of e book) (state_of now book) e2 book w w w' (ListsEnded ∷ Skipped ∷ []) (reported page reports.InvalidCharacter []) ruled refl skipped_did refl h))

        pub skipped_cuts : (w' : World) (e2 : Engine) (b : Broken) → CutsIn sizes (state_of now book) e2 w w' (reported page reports.InvalidCharacter []) b → CutsIn sizes (state_of e book) e2 w w' plan b
        skipped_cuts w' e2 b h = in_by sizes _ e2 w w' _ _ b skipped_plan (later_in sizes _ (state_of now book) e2 w w w' (ListsEnded ∷ Skipped ∷ []) _ b skipped_did h)

      -- the file has ended
      module _ (is : pulled e.input.groups.now.categories e.input.pending ≡ FileOver i.pending) where
        closed_is : pulled e.input.groups.now.categories here ≡ FileOver next
        closed_is = pulled_as book.number e.input.pending e.input.groups.now.categories (FileOver i.pending) is

        closed_plan : plan ≡ ListsEnded ∷ FileClosed ∷ checked (at_line i.pending.number page) scanned
        closed_plan = rw closed_is refl

        closed_did : Did sizes (state_of e book) (state_of now book) w w (ListsEnded ∷ FileClosed ∷ [])
        closed_did = did_pull FileClosed (FileOver next) closed_is refl tt refl refl

        pub closed_nexts : (w' : World) (e2 : Engine) (ruled : Ruled) → DoesOnward sizes (state_of now book) e2 book w w' (checked (at_line i.pending.number page) scanned) ruled → Nexts sizes want (state_of e book) e2 book w w' plan (next_free ruled)
        closed_nexts w' e2 ruled h =
            next_by sizes want _ e2 book w w' _ _ (next_free ruled) closed_plan (next_freely sizes want _ e2 book w w' _ ruled (onward_join sizes (state_of e book) (state_of now book) e2 book w w w' (ListsEnded ∷ FileClosed ∷ []) (checked (at_line i.pending.number page) scanned) ruled refl closed_did refl h))

        pub closed_cuts : (w' : World) (e2 : Engine) (b : Broken) → CutsIn sizes (state_of now book) e2 w w' (checked (at_line i.pending.number page) scanned) b → CutsIn sizes (state_of e book) e2 w w' plan b
        closed_cuts w' e2 b h = in_by sizes _ e2 w w' _ _ b closed_plan (later_in sizes _ (state_of now book) e2 w w w' (ListsEnded ∷ FileClosed ∷ []) (checked (at_line i.pending.number page) scanned) b closed_did h)

      -- nothing is left
      module _ (is : pulled e.input.groups.now.categories e.input.pending ≡ NothingLeft) (stays : i.pending ≡ end_token_lists e.input.pending) where
        nothing_plan : plan ≡ ListsEnded ∷ last_moves page last.NoEnd
        nothing_plan = rw (pulled_as book.number e.input.pending e.input.groups.now.categories NothingLeft is) refl

        nothing_did : Did sizes (state_of e book) (state_of now book) w w (ListsEnded ∷ [])
        nothing_did = did_one sizes ListsEnded _ _ w w refl (at_behind _ (stays_there stays)) (quiet_here ListsEnded w tt)

        pub no_end_nexts : (w' : World) (e2 : Engine) (ruled : Ruled) → DoesOnward sizes (state_of now book) e2 book w w' (last_moves page last.NoEnd) ruled → Nexts sizes want (state_of e book) e2 book w w' plan (next_free ruled)
        no_end_nexts w' e2 ruled h =
            next_by sizes want _ e2 book w w' _ _ (next_free ruled) nothing_plan (next_freely sizes want _ e2 book w w' _ ruled (onward_join sizes (state_of e book) (state_of now book) e2 book w w w' (ListsEnded ∷ []) (last_moves page last.NoEnd) ruled refl nothing_did refl h))

        pub no_end_cuts : (w' : World) (e2 : Engine) (b : Broken) → CutsIn sizes (state_of now book) e2 w w' (last_moves page last.NoEnd) b → CutsIn sizes (state_of e book) e2 w w' plan b
        no_end_cuts w' e2 b h = in_by sizes _ e2 w w' _ _ b nothing_plan (later_in sizes _ (state_of now book) e2 w w w' (ListsEnded ∷ []) (last_moves page last.NoEnd) b nothing_did h)

-- WHAT WAS PULLED, by the answer

module _ (p : Pulled) (a : answers.Pulled) (old new : Stored) (h : Pulls p a old new) where
  pub token_at : (t : Token) → a ≡ answer.Token t → (p ≡ TokenFrom t new.pending) × (refused old.sizes (opened_level (next_item old.pending.puts) old.pending) ≡ None)
  token_at t is = subst (λ (x : answers.Pulled). Pulls p x old new) is h

  pub lexeme_at : (l : answered.Lexed) → a ≡ answer.Lexeme l → ReadsLexeme p l new.pending new.buffer
  lexeme_at l is = subst (λ (x : answers.Pulled). Pulls p x old new) is h

  pub taken_at : a ≡ answer.Taken → TakesLine p (end_of_line old.groups.now) old.pending new.pending × (refused old.sizes (next_line old.pending) ≡ None)
  taken_at is = subst (λ (x : answers.Pulled). Pulls p x old new) is h

  pub invalid_at : a ≡ answer.Invalid → p ≡ InvalidMet new.pending
  invalid_at is = subst (λ (x : answers.Pulled). Pulls p x old new) is h

  pub over_at : a ≡ answer.FileOver → p ≡ FileOver new.pending
  over_at is = subst (λ (x : answers.Pulled). Pulls p x old new) is h

  pub nothing_left : a ≡ answer.Nothing → (p ≡ NothingLeft) × (new.pending ≡ end_token_lists old.pending)
  nothing_left is = subst (λ (x : answers.Pulled). Pulls p x old new) is h

-- WHAT IS ANSWERED

weight_by : (e e' : Engine) (c : Option Call) → e'.readings ≡ e.readings → e'.input.call ≡ e.input.call → readings_weight c e' ≡ readings_weight c e
weight_by e e' None same call = ap stack_weight same
weight_by e e' (Some c) same call =
    ap (λ (s : Stack). act_frame + frames_weight (drop 1 s.frames) + ask_weight behind_weight (asks_of c e'.input.call)) same
    ∙ ap (λ (k : Calling). act_frame + frames_weight (drop 1 e.readings.frames) + ask_weight behind_weight (asks_of c k)) call

pub same_weight : (e e' : Engine) → e'.readings ≡ e.readings → e'.input.call ≡ e.input.call → readings_weight (call_in e'.input.call) e' ≡ readings_weight (call_in e.input.call) e
same_weight e e' readings call = ap (λ (k : Calling). readings_weight (call_in k) e') call ∙ weight_by e e' (call_in e.input.call) readings call

pub lighter_after : (e e' : Engine) → SameFrames e e' → pending_weight e'.input.pending < pending_weight e.input.pending → weight e' < weight e
lighter_after e e' h less = omega (arith, same_weight e e' h.readings h.call, less)

pub skipped_light : (e : Engine) (i : Stored) (e' : Engine) → SameFrames e (record e { input = i }) → SameFrames (record e { input = i }) e' → e'.input ≡ i → pending_weight i.pending < pending_weight e.input.pending → weight e' < weight e
skipped_light e i e' first second input less =
    let pending : pending_weight e'.input.pending ≡ pending_weight i.pending = ap (λ (x : Stored). pending_weight x.pending) input in
    lighter_after e e' (record { readings = second.readings; lists = second.lists ∙ first.lists; call = second.call ∙ first.call }) (omega (arith, pending, less))

-- the answer
pub steps_met : (o : Option Seen) (n : Next) (b : Bool) → n ≡ next_met o → b ≡ true → NextStepsIf n b
steps_met o n b is step = subst (λ (x : Next). NextStepsIf x b) (sym is) (by_met o) where
  by_met : (o : Option Seen) → NextStepsIf (next_met o) b
  by_met (Some x) = step
  by_met None = tt

pub steps_free : (r : Ruled) (n : Next) (b : Bool) → n ≡ next_free r → b ≡ false → NextStepsIf n b
steps_free r n b is none = subst (λ (x : Next). NextStepsIf x b) (sym is) (by_rule r) where
  by_rule : (r : Ruled) → NextStepsIf (next_free r) b
  by_rule Step = none
  by_rule Free = none
  by_rule (Halted o) = tt

-- no reading without a step is a token, or the end
pub not_met : (o : Option Seen) (n : Next) → n ≡ next_met o → IsSkipped n → ⊥
not_met o n is h = by_met o (subst IsSkipped is h) where
  by_met : (o : Option Seen) → IsSkipped (next_met o) → ⊥
  by_met (Some x) h = h
  by_met None h = h

pub not_over : (r : Ruled) (o : Outcome) (n : Next) → n ≡ next_free r → r ≡ Halted o → IsSkipped n → ⊥
not_over r o n is ends h = subst IsSkipped (is ∙ ap next_free ends) h

pub nothing_steps : (r : Ruled) (o : Outcome) (n : Next) (b : Bool) → n ≡ next_free r → r ≡ Halted o → NextStepsIf n b
nothing_steps r o n b is ends = subst (λ (x : Next). NextStepsIf x b) (sym (is ∙ ap next_free ends)) tt
