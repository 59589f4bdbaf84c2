-- A call notes a check.
use Rattle.std.proofs.Common.{◌≡◌, ℕ, List, [], ◌∷◌, ◌++◌, length, drop, refl, sym, ap, append_assoc, subst, ◌∙◌, Bool, false}
use Rattle.std.specs.Prelude.{Option, Some}
use Rattle.tex_defs.specs.declared.Name.{Name}
use Rattle.tex_defs.specs.declared.Seen.{Seen}
use Rattle.tex_defs.specs.declared.Sizes.{Sizes}
use Rattle.tex_defs.specs.declared.Token.{Token}
use Rattle.plain_tokens.specs.declared.par_mode.ParMode.TheVariants.{Checked}
use Rattle.plain_tokens.specs.Arguments.{Answer, arguments_in, work_in, is_par}
use Rattle.rows.specs.Readings as reading
use Rattle.rows.specs.Readings.{Fed, Tok, Cut}
use Rattle.plain_readings.specs.Calls.{gathered, call_fed}
use Rattle.plain_readings.specs.Readings.{Kind, Reading, Arguments, fed_with}
use Rattle.plain_machine.specs.States.{Feeds, made}
use Rattle.plain_machine.specs.Plan.{feeding, feeding_kind, argument_fed}
use Rattle.plain_machine.specs.Does.{Did}
use Rattle.plain_machine.proofs.Doing.{did_one}
use Rattle.world_io.specs.Contents.{FilesTold, SinkTold}
use Rattle.macro_call.specs.PlainScans.{Scan, resume_scan, cut_scan}
use Rattle.macro_call.proofs.Checks.{checks_show}
use Rattle.macro_call.proofs.PlainScans.{scans_gather}
use Rattle.input_state.specs.CallFeeds.{with_scan}
use Rattle.input_state.specs.Callings as calls
use Rattle.input_state.specs.Callings.{Calling, call_lists, asks_where, asks_as, call_in}
use Rattle.input_state.specs.Macros.{list_at}
use Rattle.engine_state.specs.declared.engine.Engine.{Engine}
use Rattle.engine_state.specs.Book.{Book, with_work}
use Rattle.engine_state.specs.Calls.{asks_by, AllStand, AsksToken, ReadingsStand}
use Rattle.engine_state.proofs.CallsIn.{open_call}
use Rattle.engine_state.specs.Steps.{asked_by}
use Rattle.engine_state.proofs.CallFeedingAnswers.{in_front}
use Rattle.engine_state.proofs.CallsFed.{scan_stands, unbraced_stand}
use Rattle.engine_state.proofs.CallsKnown.{CallStands, Gathers, Taking}
use Rattle.engine_state.specs.Stands.{SameStore, state_of}
use Rattle.engine_state.specs.Rules.{world_of}
use Rattle.engine_state.proofs.Joining.{quiet_wrote}
use Rattle.engine_state.proofs.Storing.{sound_still, store_scan}

-- WHAT A TOKEN BEHIND A CHECK COMES TO

module _ (long : Bool) (text : List Token) (scan : Scan) (fed : List Fed) (g : Gathers long text scan fed) where
  cuts : (more : List Fed) → gathered long text (fed ++ Cut ∷ more) ≡ resume_scan text (cut_scan scan) (call_fed more)
  cuts more = g.goes_on (Cut ∷ more) ∙ scans_gather.cut text scan (call_fed more)

  -- a token that is no `\par` comes to the same
  cut_feeds : (x : Seen) → is_par x.token ≡ false → (name : Name) (number : ℕ) → feeding_kind (Arguments name long number text) (fed ++ Cut ∷ []) x ≡ feeding_kind (Arguments name long number text) fed x
  cut_feeds x plain name number =
      let after : gathered long text ((fed ++ Cut ∷ []) ++ Tok x ∷ []) ≡ gathered long text (fed ++ Tok x ∷ []) =
      ap (gathered long text) (append_assoc fed (Cut ∷ []) (Tok x ∷ [])) ∙ cuts (Tok x ∷ []) ∙ checks_show.answer text scan x.token plain ∙ sym (g.goes_on (Tok x ∷ [])) in
      let args : arguments_in (gathered long text (fed ++ Cut ∷ [])) ≡ arguments_in (gathered long text fed) = ap arguments_in (cuts []) ∙ checks_show.args text scan ∙ sym (ap arguments_in (in_front long text scan fed g)) in
      let work : work_in (gathered long text (fed ++ Cut ∷ [])) ≡ work_in (gathered long text fed) = ap work_in (cuts []) ∙ checks_show.work text scan ∙ sym (ap work_in (in_front long text scan fed g)) in
      ap (λ (a : Answer). argument_fed x (work_in (gathered long text (fed ++ Cut ∷ []))) (drop (length (arguments_in (gathered long text (fed ++ Cut ∷ [])))) (arguments_in a)) (work_in a)) after
      ∙ ap (λ (o : Option (List Token)). argument_fed x o (drop (length (arguments_in (gathered long text (fed ++ Cut ∷ [])))) (arguments_in (gathered long text (fed ++ Tok x ∷ [])))) (work_in (gathered long text (fed ++ Tok x ∷ [])))) work
      ∙ ap (λ (us : List (List Token)). argument_fed x (work_in (gathered long text fed)) (drop (length us) (arguments_in (gathered long text (fed ++ Tok x ∷ [])))) (work_in (gathered long text (fed ++ Tok x ∷ [])))) args

-- THE CHECK IS NOTED

-- a call that asks for a token still does
pub cut_asks : (k : Calling) (o : Option reading.Ask) → AsksToken k → asked_by (call_in (with_scan cut_scan k)) (with_scan cut_scan k) o ≡ asked_by (call_in k) k o
cut_asks calls.NotCalling o h = refl
cut_asks (calls.Gathering n scan) o h = ap (λ (b : Bool). Some (asks_by n (asks_where b) (calls.Gathering n scan))) (sym h)
cut_asks (calls.Stopped n why scan) o h = refl
cut_asks (calls.Gathered n args) o h = refl

pub cut_same : (k : Calling) → AsksToken k → call_in (with_scan cut_scan k) ≡ call_in k
cut_same calls.NotCalling h = refl
cut_same (calls.Gathering n scan) h = ap (asks_as n) (ap asks_where (sym h))
cut_same (calls.Stopped n why scan) h = refl
cut_same (calls.Gathered n args) h = refl

module _ (sizes : Sizes) (e e2 : Engine) (book : Book) (name : Name) (r : Reading) (rs : List Reading) (is : call_in e.input.call ≡ Some (open_call name)) (work : book.work ≡ r ∷ rs) (st : AllStand sizes e book)
    (h : CallStands e book.number (open_call name) r) (after : e2 ≡ record e { input = record e.input { call = with_scan cut_scan e.input.call } }) where
  abbrev now : List Reading
  now = fed_with Cut (r ∷ rs)

  t : Taking name h.long (list_at e.input.lists h.id) r.fed e.input.call
  t = h.at

  stood : ReadingsStand e book.number (r ∷ rs)
  stood = subst (ReadingsStand e book.number) work st.all

  store : SameStore e.input e2.input
  store = store_scan e.input e2.input (with_scan cut_scan e.input.call) (ap (λ (y : Engine). y.input) after)

  pub noted_stands : AllStand sizes e2 (with_work now book)
  noted_stands = record {
    sound = sound_still sizes e e2 book.number book.all_lists (ap (λ (y : Engine). y.sizes) after) (ap (λ (y : Engine). y.readings.size) after) (ap (λ (y : Engine). y.conditionals) after) (ap (λ (y : Engine). y.names) after) (ap (λ (y : Engine). y.reports) after) store st.sound;
    idle = ap (λ (y : Engine). y.input.making) after ∙ st.idle;
    all = unbraced_stand e e2 book.number name stood.readings.text t.scan r rs Cut (scan_stands e book.number name t.scan r rs t.is stood) (ap (λ (y : Engine). y.readings) after) (ap (λ (y : Engine). y.input.builds) after) store Checked
        (ap (λ (y : Engine). y.input.call) after ∙ ap (with_scan cut_scan) t.is) (λ fed. scans_gather.cut stood.readings.text t.scan (call_fed fed));
  }

  lists : call_lists e.input.call ≡ call_lists (with_scan cut_scan e.input.call)
  lists = ap call_lists t.is ∙ sym (ap (λ (c : Calling). call_lists (with_scan cut_scan c)) t.is)

  made_now : made (Feeds Cut) (state_of e book) ≡ state_of e2 (with_work now book)
  made_now =
      ap (λ (rs : List Reading). record (state_of e book) { work = fed_with Cut rs }) work
      ∙ ap (λ (l : List (List Token)). record (state_of e book) { work = now; gathered = l ++ e.input.builds }) lists
      ∙ ap (λ (y : Engine). state_of y (with_work now book)) (sym after)

  pub noted_did : (f : FilesTold) (s : SinkTold) → Did sizes (state_of e book) (state_of e2 (with_work now book)) (world_of f s e) (world_of f s e2) (Feeds Cut ∷ [])
  noted_did f s = did_one sizes (Feeds Cut) _ _ _ _ refl made_now (quiet_wrote (Feeds Cut) f s e.in_line e2.in_line tt (ap (λ (y : Engine). y.in_line) after))

  pub noted_feeds : (x : Seen) → is_par x.token ≡ false → feeding (record { kind = r.kind; fed = r.fed ++ Cut ∷ [] }) x ≡ feeding r x
  noted_feeds x plain =
      ap (λ (kind : Kind). feeding_kind kind (r.fed ++ Cut ∷ []) x) h.kind
      ∙ cut_feeds h.long (list_at e.input.lists h.id) t.scan r.fed t.gathers x plain name (book.number h.id)
      ∙ sym (ap (λ (kind : Kind). feeding_kind kind r.fed x) h.kind)
