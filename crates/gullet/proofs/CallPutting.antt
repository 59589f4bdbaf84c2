-- The arguments of a call pass to the macro's body, which is put.
use Rattle.std.proofs.Common.{◌≡◌, ℕ, List, [], ◌∷◌, drop, length, refl, sym, ap, subst, ◌∙◌, Bool, true}
use Rattle.std.specs.Prelude.{Option, Some, None, ◌||◌}
use Rattle.tex_defs.specs.declared.Full.{Full}
use Rattle.tex_defs.specs.declared.Meaning.{Meaning}
use Rattle.tex_defs.specs.declared.Name.{Name}
use Rattle.tex_defs.specs.declared.Sizes.{Sizes}
use Rattle.tex_defs.specs.declared.Token.{Token}
use Rattle.tex_defs.specs.Places.{World}
use Rattle.plain_tokens.specs.Meanings.{is_listed, name_meaning}
use Rattle.equivalents.specs.Holding.{lists_held}
use Rattle.plain_tokens.specs.Pending.{Pending, put_front, end_token_lists, with_puts, all_puts}
use Rattle.plain_tokens.specs.Puts.{Item, Put, call_put, put_top, without_ended}
use Rattle.plain_readings.specs.Readings as reading
use Rattle.plain_readings.specs.Readings.{Reading, lists}
use Rattle.plain_machine.specs.declared.broken.Broken.TheVariants as broken
use Rattle.plain_machine.specs.States.{State, ListsEnded, CalledWith, made}
use Rattle.plain_tokens.specs.Tables.{Demand, level, parameters, refused, is_put}
use Rattle.plain_machine.specs.Demands.{refusal}
use Rattle.plain_machine.specs.Numbers.{pending_of, put_of as numbered}
use Rattle.plain_machine.specs.Plan.{arguments_put, called_with}
use Rattle.plain_machine.specs.Does.{Did}
use Rattle.plain_machine.proofs.Doing.{did_join, did_one, did_none}
use Rattle.plain_machine.proofs.Renumbering.{settle_of, put_front_of, level_of, parameters_of}
use Rattle.plain_machine.proofs.Ties.{tied_settled, tied_put}
use Rattle.world_io.specs.Contents.{FilesTold, SinkTold}
use Rattle.input_state.specs.Callings as calls
use Rattle.input_state.specs.Callings.{Calling, NotCalling, call_in}
use Rattle.input_state.specs.Calls.{after_call, called_top, macro_put, put_of, when_put}
use Rattle.input_state.specs.Macros.{list_at}
use Rattle.input_state.specs.Stored.{Stored, KeepsShared, gathered, put_refusal}
use Rattle.input_state.specs.declared.answer.Call.{Call}
use Rattle.macro_call.specs.declared.ask.CallAsk.TheVariants as asked
use Rattle.engine_state.specs.declared.engine.Engine.{Engine}
use Rattle.engine_state.specs.Book.{Book, with_work}
use Rattle.engine_state.specs.Calls.{args_of, AllStand}
use Rattle.engine_state.proofs.CallsKnown.{CallStands, IsGathered, ReadingsBy}
use Rattle.reading_frames.specs.Stack.{reading_ended}
use Rattle.engine_state.specs.Stands.{IsSound, SameStore, state_of}
use Rattle.engine_state.specs.Rules.{world_of, Cuts, Went}
use Rattle.engine_state.proofs.CallEnding.{here, closed_went, ended_stand, lists_gone}
use Rattle.engine_state.proofs.CallKept.{meant_by}
use Rattle.engine_state.proofs.Cutting.{later_cuts, full_cuts, cuts_by}
use Rattle.engine_state.proofs.Joining.{quiet_here, quiet_wrote, went_by}
use Rattle.engine_state.proofs.Storing.{sound_still}
use Rattle.gullet.proofs.Ending.{none_found}

-- WHAT IS PUT

-- the macro of the call
pub put_is : (e : Engine) (number : ℕ → ℕ) (c : Call) (r : Reading) (h : CallStands e number c r) → IsGathered c.name e.input.call → put_of e.input.lists e.input.groups.now.meanings e.input.call ≡ call_put h.id (list_at e.input.lists h.id) (args_of e.input.call)
put_is e number c r h at = by_calling e.input.call at where
  by_calling : (k : Calling) → IsGathered c.name k → put_of e.input.lists e.input.groups.now.meanings k ≡ call_put h.id (list_at e.input.lists h.id) (args_of k)
  by_calling calls.NotCalling where_it = absurd where_it
  by_calling (calls.Gathering n scan) where_it = absurd where_it
  by_calling (calls.Stopped n why scan) where_it = absurd where_it
  by_calling (calls.Gathered n args) where_it =
      ap (λ (x : Name). macro_put e.input.lists (name_meaning e.input.groups.now.meanings x) args) where_it ∙ ap (λ (m : Meaning (Option ℕ)). macro_put e.input.lists m args) h.meaning

pub moves_are : (number : ℕ → ℕ) (name : Name) (long : Bool) (id : ℕ) (ts : List Token) (args : List (List Token)) (k : reading.Kind) → k ≡ reading.Arguments name long (number id) ts →
    called_with k args ≡ arguments_put (numbered number (call_put id ts args)) (call_put id ts args).items
moves_are number name long id ts args k is = ap (λ (x : reading.Kind). called_with x args) is

-- one without items changes nothing
pending_same : (p : Put) (q : Pending) → p.items ≡ [] → after_call p q ≡ q
pending_same p q is = ap (λ (xs : List Item). with_puts (called_top p xs q.puts) q) is

pending_put : (p : Put) (q : Pending) (x : Item) (xs : List Item) → p.items ≡ x ∷ xs → after_call p q ≡ put_front p (end_token_lists q)
pending_put p q x xs is = ap (λ (ys : List Item). with_puts (called_top p ys q.puts) q) is ∙ sym (ap (λ (ys : List Item). with_puts (put_top p ys (without_ended q.puts)) q) is)

module _ (sizes : Sizes) (e : Engine) (book : Book) (r : Reading) (rs : List Reading) (c : Call) (is : call_in e.input.call ≡ Some c) (st : AllStand sizes e (with_work (r ∷ rs) book)) (id : ℕ) (ts : List Token) (args : List (List Token)) (meant : is_listed (lists_held e.input.groups) id ≡ true) where
  abbrev p : Put
  p = call_put id ts args

  abbrev P : Put
  P = numbered book.number p

  abbrev W : Book
  W = with_work (r ∷ rs) book

  abbrev settled_state : State
  settled_state = record (state_of e W) { pending = end_token_lists (pending_of book.number e.input.pending) }

  did_settled : (w : World) → Did sizes (state_of e W) settled_state w w (ListsEnded ∷ [])
  did_settled w = did_one sizes ListsEnded (state_of e W) settled_state w w refl refl (quiet_here ListsEnded w tt)

  -- what is asked for
  demands_same : (o : Option Full) (x : Item) (xs : List Item) → p.items ≡ x ∷ xs → put_refusal p e.input ≡ o → refusal sizes (CalledWith P) settled_state ≡ o
  demands_same o x xs some refuses =
      ap (λ (q : Pending). refused sizes (parameters P q ∷ level q ∷ [])) (settle_of book.number e.input.pending)
      ∙ ap (λ (d : Demand). refused sizes (d ∷ level (pending_of book.number (end_token_lists e.input.pending)) ∷ [])) (parameters_of book.number p (end_token_lists e.input.pending))
      ∙ ap (λ (d : Demand). refused sizes (parameters p (end_token_lists e.input.pending) ∷ d ∷ [])) (level_of book.number (end_token_lists e.input.pending))
      ∙ ap (λ (s : Sizes). refused s (parameters p (end_token_lists e.input.pending) ∷ level (end_token_lists e.input.pending) ∷ [])) (sym st.sound.sized.input)
      ∙ sym (ap (λ (ys : List Item). refused e.input.sizes (when_put ys (parameters p (end_token_lists e.input.pending) ∷ level (end_token_lists e.input.pending) ∷ []))) some) ∙ refuses

  -- there is no room for it
  pub put_cuts : (e2 : Engine) (w : World) (full : Full) → e2 ≡ record e { input = record e.input { pending = end_token_lists e.input.pending; lists = e2.input.lists } } → put_refusal p e.input ≡ Some full → Cuts sizes (state_of e W) e2 W w w (arguments_put P p.items) (broken.Full full)
  put_cuts e2 w full after refuses = by_items p.items refl where
    by_items : (xs : List Item) → p.items ≡ xs → Cuts sizes (state_of e W) e2 W w w (arguments_put P xs) (broken.Full full)
    by_items [] none = let nothing : refused e.input.sizes [] ≡ Some full = sym (ap (λ (ys : List Item). refused e.input.sizes (when_put ys (parameters p (end_token_lists e.input.pending) ∷ level (end_token_lists e.input.pending) ∷ []))) none) ∙ refuses in absurd (none_found full nothing)
    by_items (x ∷ xs) some =
        later_cuts sizes _ settled_state e2 W w w w (ListsEnded ∷ []) (CalledWith P ∷ []) (broken.Full full) (did_settled w)
        (full_cuts sizes settled_state e2 W w (CalledWith P) [] full (broken.Full full) refl (demands_same (Some full) x xs some refuses)
        (ap (λ (q : Pending). record (state_of e W) { pending = q }) (settle_of book.number e.input.pending) ∙ ap (λ (y : Engine). state_of y W) (sym after)))

  module _ (e2 : Engine) (after : e2 ≡ record e { readings = reading_ended e.readings; input = record e.input { pending = after_call p e.input.pending; call = NotCalling; lists = e2.input.lists } }) (all_lists : KeepsShared e.input e2.input) where
    k : ReadingsBy (Some c) e book.number (r ∷ rs)
    k = here sizes e book c r rs is st

    -- the input with the body in front, its lists as they were
    abbrev middle : Stored
    middle = record e.input { pending = put_front p (end_token_lists e.input.pending); call = NotCalling }

    middle_sound : IsSound sizes (record e { input = middle }) book.number book.all_lists
    middle_sound = record {
      sized = record { few_reports = st.sound.sized.few_reports; own = st.sound.sized.own; readings = st.sound.sized.readings; conditionals = st.sound.sized.conditionals; input = st.sound.sized.input; names = st.sound.sized.names; located = st.sound.sized.located };
      tied = tied_put book.number book.all_lists (lists_held e.input.groups) (end_token_lists e.input.pending) e.input.lists (tied_settled book.number book.all_lists (lists_held e.input.groups) e.input.pending e.input.lists st.sound.tied) id p refl (ap (λ (b : Bool). b || is_put id (all_puts (end_token_lists e.input.pending))) meant);
      bodies = st.sound.bodies;
    }

    module _ (x : Item) (xs : List Item) (some : p.items ≡ x ∷ xs) where
      now : e2 ≡ record e { readings = reading_ended e.readings; input = record middle { lists = e2.input.lists } }
      now = after ∙ ap (λ (q : Pending). record e { readings = reading_ended e.readings; input = record e.input { pending = q; call = NotCalling; lists = e2.input.lists } }) (pending_put p e.input.pending x xs some)

      store : SameStore middle e2.input
      store = record {
        sizes = ap (λ (y : Engine). y.input.sizes) now;
        groups = ap (λ (y : Engine). y.input.groups) now;
        closing = ap (λ (y : Engine). y.input.closing) now;
        ending = ap (λ (y : Engine). y.input.ending) now;
        puts = λ n h. subst (λ (y : Engine). is_put n (all_puts y.input.pending) ≡ true) now h;
        lists = record { tokens = all_lists.tokens };
      }

      put_stands : AllStand sizes e2 (with_work rs book)
      put_stands = record {
        sound = sound_still sizes (record e { input = middle }) e2 book.number book.all_lists (ap (λ (y : Engine). y.sizes) now) (ap (λ (y : Engine). y.readings.size) now) (ap (λ (y : Engine). y.conditionals) now) (ap (λ (y : Engine). y.names) now) (ap (λ (y : Engine). y.reports) now) store middle_sound;
        idle = ap (λ (y : Engine). y.input.making) now ∙ st.idle;
        all = ended_stand e e2 book.number c r rs is (ap (λ (y : Engine). y.readings) now) (ap (λ (y : Engine). y.input.builds) now) (ap (λ (y : Engine). y.input.call) now) st.all;
      }

      put_state : made (CalledWith P) settled_state ≡ state_of e2 (with_work rs book)
      put_state =
          ap (λ (q : Pending). record (state_of e W) { pending = put_front P q; work = rs; gathered = drop (length (lists r.kind r.fed)) (gathered e.input) }) (settle_of book.number e.input.pending)
          ∙ ap (λ (q : Pending). record (state_of e W) { pending = q; work = rs; gathered = drop (length (lists r.kind r.fed)) (gathered e.input) }) (put_front_of book.number p (end_token_lists e.input.pending))
          ∙ ap (λ (l : List (List Token)). record (state_of e W) { pending = pending_of book.number (put_front p (end_token_lists e.input.pending)); work = rs; gathered = l }) (lists_gone e.input (lists r.kind r.fed) k.holds)
          ∙ ap (λ (y : Engine). state_of y (with_work rs book)) (sym now)

    -- it is put
    pub put_went : (f : FilesTold) (told : SinkTold) → put_refusal p e.input ≡ None → Went sizes (state_of e W) e2 (world_of f told e) (world_of f told e2) (arguments_put P p.items) 0
    put_went f told fits = by_items p.items refl where
      by_items : (xs : List Item) → p.items ≡ xs → Went sizes (state_of e W) e2 (world_of f told e) (world_of f told e2) (arguments_put P xs) 0
      by_items [] none =
          closed_went sizes e e2 book r rs c is st (after ∙ ap (λ (q : Pending). record e { readings = reading_ended e.readings; input = record e.input { pending = q; call = NotCalling; lists = e2.input.lists } }) (pending_same p e.input.pending none)) all_lists
          (state_of e W) f told (world_of f told e) [] (did_none sizes (state_of e W) (world_of f told e)) refl
      by_items (x ∷ xs) some = record {
        book' = with_work rs book;
        stands = put_stands x xs some;
        did = did_join sizes _ _ _ _ _ _ (ListsEnded ∷ []) (CalledWith P ∷ []) (did_settled (world_of f told e))
            (did_one sizes (CalledWith P) _ _ _ _ (demands_same None x xs some fits) (put_state x xs some) (quiet_wrote (CalledWith P) f told e.in_line e2.in_line tt (ap (λ (y : Engine). y.in_line) after)));
        count = refl;
      }

module _ (sizes : Sizes) (e e2 : Engine) (book : Book) (r : Reading) (rs : List Reading) (name : Name) (is : call_in e.input.call ≡ Some (record { name = name; ask = asked.Gathered })) (st : AllStand sizes e (with_work (r ∷ rs) book)) (h : CallStands e book.number (record { name = name; ask = asked.Gathered }) r) where
  moves : called_with r.kind (args_of e.input.call) ≡ arguments_put (numbered book.number (call_put h.id (list_at e.input.lists h.id) (args_of e.input.call))) (call_put h.id (list_at e.input.lists h.id) (args_of e.input.call)).items
  moves = moves_are book.number name h.long h.id (list_at e.input.lists h.id) (args_of e.input.call) r.kind h.kind

  what : put_of e.input.lists e.input.groups.now.meanings e.input.call ≡ call_put h.id (list_at e.input.lists h.id) (args_of e.input.call)
  what = put_is e book.number (record { name = name; ask = asked.Gathered }) r h h.at

  meant : is_listed (lists_held e.input.groups) h.id ≡ true
  meant = meant_by e.input.groups name h.long h.outer h.id h.meaning

  pub put_rule : e2 ≡ record e { readings = reading_ended e.readings; input = record e.input { pending = after_call (put_of e.input.lists e.input.groups.now.meanings e.input.call) e.input.pending; call = NotCalling; lists = e2.input.lists } } → KeepsShared e.input e2.input →
      put_refusal (put_of e.input.lists e.input.groups.now.meanings e.input.call) e.input ≡ None → (f : FilesTold) (told : SinkTold) →
      Went sizes (state_of e (with_work (r ∷ rs) book)) e2 (world_of f told e) (world_of f told e2) (called_with r.kind (args_of e.input.call)) 0
  put_rule after all_lists fits f told =
      went_by sizes _ e2 _ _ _ _ 0 moves (put_went sizes e book r rs _ is st h.id (list_at e.input.lists h.id) (args_of e.input.call) meant e2
      (after ∙ ap (λ (p : Put). record e { readings = reading_ended e.readings; input = record e.input { pending = after_call p e.input.pending; call = NotCalling; lists = e2.input.lists } }) what) all_lists f told
      (ap (λ (p : Put). put_refusal p e.input) (sym what) ∙ fits))

  pub put_cut : e2 ≡ record e { input = record e.input { pending = end_token_lists e.input.pending; lists = e2.input.lists } } → (full : Full) → put_refusal (put_of e.input.lists e.input.groups.now.meanings e.input.call) e.input ≡ Some full → (w : World) →
      Cuts sizes (state_of e (with_work (r ∷ rs) book)) e2 (with_work (r ∷ rs) book) w w (called_with r.kind (args_of e.input.call)) (broken.Full full)
  put_cut after full refuses w =
      cuts_by sizes _ e2 (with_work (r ∷ rs) book) w w _ _ (broken.Full full) moves (put_cuts sizes e book r rs _ is st h.id (list_at e.input.lists h.id) (args_of e.input.call) meant e2 w full after (ap (λ (p : Put). put_refusal p e.input) (sym what) ∙ refuses))
