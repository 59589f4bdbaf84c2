-- Groups opened and closed, and the tokens behind them.
use Rattle.std.proofs.Common.{◌≡◌, ℕ, ◌<◌, List, [], ◌∷◌, ◌++◌, length, true, refl, sym, ap, ◌∙◌, subst, arith}
use Rattle.std.specs.Prelude.{Option, Some, None}
use Rattle.tex_defs.specs.Places.{World}
use Rattle.tex_defs.specs.declared.Full.{Full}
use Rattle.tex_defs.specs.declared.Sizes.{Sizes}
use Rattle.tex_defs.specs.declared.Token.{Token}
use Rattle.plain_tokens.specs.Meanings.{is_listed}
use Rattle.plain_tokens.specs.Pending.{all_puts}
use Rattle.plain_tokens.specs.Tables.{Demand, refused}
use Rattle.save_stack.specs.declared.GroupKind.{GroupKind}
use Rattle.save_stack.specs.Closing.{kind_last}
use Rattle.equivalents.specs.Groups.{Groups, opened, with_token, group_demands, token_demands, current_group, depth}
use Rattle.equivalents.specs.Holding.{lists_held}
use Rattle.plain_machine.specs.declared.broken.Broken.{Broken}
use Rattle.plain_machine.specs.declared.broken.Broken.TheVariants as broken
use Rattle.plain_machine.specs.States.{Move, GroupOpened, KeptForGroup, KeptForAssignment, made}
use Rattle.plain_machine.specs.Demands.{refusal}
use Rattle.plain_machine.specs.Plan.{put_one, kept_for_group, behind_assignment}
use Rattle.plain_machine.specs.Does.{Did}
use Rattle.plain_machine.specs.Numbers.{groups_of}
use Rattle.plain_machine.proofs.Doing.{did_join, did_one}
use Rattle.plain_machine.proofs.GroupNumbers.{opened_of, with_token_of, group_demands_of, token_demands_of}
use Rattle.plain_machine.proofs.Ties.{held_more, tied_fewer, tied_stayed}
use Rattle.input_state.specs.Stored.{Stored, KeepsShared}
use Rattle.engine_state.specs.declared.engine.Engine.{Engine}
use Rattle.engine_state.specs.Book.{Book}
use Rattle.engine_state.specs.Rules.{Cuts}
use Rattle.engine_state.specs.Stands.{IsSound, Stands, Counts, SameFrames, state_of}
use Rattle.engine_state.proofs.CallKept.{frames_kept}
use Rattle.engine_state.proofs.Cutting.{cuts_by, later_cuts, full_cuts}
use Rattle.engine_state.proofs.Joining.{IsQuiet, quiet_here}
use Rattle.engine_state.proofs.Storing.{body_at}

-- OTHER GROUPS, by a move

module _ (e : Engine) (g : Groups) (closing : List Token) (ending : Option GroupKind) (lists : List (List Token)) (i : Stored) (is : i ≡ record e.input { groups = g; closing = closing; ending = ending; lists = lists }) where
  abbrev after : Stored
  after = record e.input { groups = g; closing = closing; ending = ending; lists = lists }

  pub grouped_frames : SameFrames e (record e { input = i })
  grouped_frames = record { readings = refl; lists = ap (λ (j : Stored). j.builds) is; call = ap (λ (j : Stored). j.call) is }

  pub grouped_did : (sizes : Sizes) (w : World) (book : Book) (m : Move) → IsQuiet m → refusal sizes m (state_of e book) ≡ None → made m (state_of e book) ≡ record (state_of e book) { groups = groups_of book.number g } →
      Did sizes (state_of e book) (state_of (record e { input = i }) book) w w (m ∷ [])
  grouped_did sizes w book m quiet fits makes =
      did_one sizes m (state_of e book) (state_of (record e { input = i }) book) w w fits (makes ∙ ap (λ (j : Stored). state_of (record e { input = j }) book) (sym is)) (quiet_here m w quiet)

  -- no list more is held
  module _ (same : length g.now.meanings ≡ length e.input.groups.now.meanings) (fewer : (n : ℕ) → is_listed (lists_held g) n ≡ true → is_listed (lists_held e.input.groups) n ≡ true) (kept : KeepsShared e.input i) where
    kept_after : KeepsShared e.input after
    kept_after = subst (KeepsShared e.input) is kept

    sound_after : (sizes : Sizes) (number : ℕ → ℕ) (all_lists : List (List Token)) → IsSound sizes e number all_lists → IsSound sizes (record e { input = after }) number all_lists
    sound_after sizes number all_lists h = record {
      sized = record {
        few_reports = h.sized.few_reports;
        own = h.sized.own;
        readings = h.sized.readings;
        conditionals = h.sized.conditionals;
        input = h.sized.input;
        names = h.sized.names;
        located = same ∙ h.sized.located;
      };
      tied = tied_stayed number all_lists (lists_held g) (all_puts e.input.pending) e.input.lists
          (tied_fewer number all_lists (lists_held e.input.groups) (all_puts e.input.pending) e.input.lists h.tied (lists_held g) (all_puts e.input.pending)
          (λ n held. held_more n (lists_held g) (lists_held e.input.groups) (all_puts e.input.pending) (all_puts e.input.pending) (fewer n) (λ put. put) held)) lists
          (λ k below none. body_at all_lists k h.bodies below none) kept_after.tokens;
      bodies = h.bodies;
    }

    pub grouped_sound : (sizes : Sizes) (number : ℕ → ℕ) (all_lists : List (List Token)) → IsSound sizes e number all_lists → IsSound sizes (record e { input = i }) number all_lists
    grouped_sound sizes number all_lists h = subst (λ (j : Stored). IsSound sizes (record e { input = j }) number all_lists) (sym is) (sound_after sizes number all_lists h)

    pub grouped_stands : (sizes : Sizes) (book : Book) → Stands sizes e book → Stands sizes (record e { input = i }) book
    grouped_stands sizes book st = record {
      sound = grouped_sound sizes book.number book.all_lists st.sound;
      idle = ap (λ (j : Stored). j.making) is ∙ st.idle;
      readings = frames_kept e (record e { input = i }) book.work grouped_frames st.readings;
      uncalled = ap (λ (j : Stored). j.call) is ∙ st.uncalled;
    }

-- what is asked for, by the machine and by the input
module _ (sizes : Sizes) (e : Engine) (book : Book) (o : Option Full) (sound : IsSound sizes e book.number book.all_lists) where
  pub asks_same : (ds es : List Demand) → ds ≡ es → refused e.input.sizes es ≡ o → refused sizes ds ≡ o
  asks_same ds es same h = ap (refused sizes) same ∙ (ap (λ (s : Sizes). refused s es) (sym sound.sized.input) ∙ h)

  group_asks : refused e.input.sizes (group_demands e.input.groups) ≡ o → refused sizes (group_demands (groups_of book.number e.input.groups)) ≡ o
  group_asks h = asks_same _ _ (group_demands_of book.number e.input.groups) h

  token_asks : refused e.input.sizes (token_demands e.input.groups) ≡ o → refused sizes (token_demands (groups_of book.number e.input.groups)) ≡ o
  token_asks h = asks_same _ _ (token_demands_of book.number e.input.groups) h

-- there is no room for it, and nothing has changed
pub unchanged_cuts : (sizes : Sizes) (e : Engine) (i : Stored) (book : Book) (w : World) (m : Move) (more : List Move) (full : Full) → i ≡ e.input → refusal sizes m (state_of e book) ≡ Some full →
    Cuts sizes (state_of e book) (record e { input = i }) book w w (m ∷ more) (broken.Full full)
unchanged_cuts sizes e i book w m more full same refuses =
    full_cuts sizes (state_of e book) (record e { input = i }) book w m more full (broken.Full full) refl refuses (ap (λ (j : Stored). state_of (record e { input = j }) book) (sym same))

-- A GROUP IS OPENED

module _ (e : Engine) (kind : GroupKind) (i : Stored) where
  module _ (is : i ≡ record e.input { groups = opened e.input.groups kind }) where
    pub opened_did : (sizes : Sizes) (w : World) (book : Book) → IsSound sizes e book.number book.all_lists → refused e.input.sizes (group_demands e.input.groups) ≡ None →
        Did sizes (state_of e book) (state_of (record e { input = i }) book) w w (GroupOpened kind ∷ [])
    opened_did sizes w book sound fits =
        grouped_did e (opened e.input.groups kind) e.input.closing e.input.ending e.input.lists i is sizes w book (GroupOpened kind) tt (group_asks sizes e book None sound fits)
        (ap (λ (g : Groups). record (state_of e book) { groups = g }) (opened_of book.number e.input.groups kind))

    pub opened_stands : KeepsShared e.input i → (sizes : Sizes) (book : Book) → Stands sizes e book → Stands sizes (record e { input = i }) book
    opened_stands kept sizes book st = grouped_stands e (opened e.input.groups kind) e.input.closing e.input.ending e.input.lists i is refl (λ n h. h) kept sizes book st

  pub unopened_cuts : (sizes : Sizes) (w : World) (book : Book) (full : Full) → i ≡ e.input → IsSound sizes e book.number book.all_lists → refused e.input.sizes (group_demands e.input.groups) ≡ Some full →
      Cuts sizes (state_of e book) (record e { input = i }) book w w (GroupOpened kind ∷ []) (broken.Full full)
  unopened_cuts sizes w book full same sound refuses = unchanged_cuts sizes e i book w (GroupOpened kind) [] full same (group_asks sizes e book (Some full) sound refuses)

-- A TOKEN IS KEPT FOR A GROUP'S END

-- a group has a kind
has_kind : (k : GroupKind) (ks : List GroupKind) → kind_last (k ∷ ks) ≡ None → ⊥
has_kind k [] h = cc
has_kind k (l ∷ ks) h = has_kind l ks h

kept_by : (ks : List GroupKind) (t : Token) → 0 < length ks → kept_for_group (kind_last ks) t ≡ KeptForGroup t ∷ []
kept_by [] t inside = absurd (omega (arith, inside))
kept_by (k ∷ ks) t inside = by_kind (kind_last (k ∷ ks)) (has_kind k ks) where
  by_kind : (o : Option GroupKind) → (o ≡ None → ⊥) → kept_for_group o t ≡ KeptForGroup t ∷ []
  by_kind None some = absurd (some refl)
  by_kind (Some l) some = refl

module _ (e : Engine) (t : Token) where
  abbrev keeps : List Move
  keeps = kept_for_group (current_group e.input.groups) t

  module _ (i : Stored) (inside : 0 < depth e.input.groups) where
    module _ (is : i ≡ record e.input { groups = with_token e.input.groups t }) where
      pub kept_did : (sizes : Sizes) (w : World) (book : Book) → IsSound sizes e book.number book.all_lists → refused e.input.sizes (token_demands e.input.groups) ≡ None →
          Did sizes (state_of e book) (state_of (record e { input = i }) book) w w keeps
      kept_did sizes w book sound fits =
          subst (λ (ms : List Move). Did sizes (state_of e book) (state_of (record e { input = i }) book) w w ms) (sym (kept_by e.input.groups.kinds t inside))
          (grouped_did e (with_token e.input.groups t) e.input.closing e.input.ending e.input.lists i is sizes w book (KeptForGroup t) tt (token_asks sizes e book None sound fits)
          (ap (λ (g : Groups). record (state_of e book) { groups = g }) (with_token_of book.number e.input.groups t)))

      pub kept_stands : KeepsShared e.input i → (sizes : Sizes) (book : Book) → Stands sizes e book → Stands sizes (record e { input = i }) book
      kept_stands kept sizes book st = grouped_stands e (with_token e.input.groups t) e.input.closing e.input.ending e.input.lists i is refl (λ n h. h) kept sizes book st

    pub unkept_cuts : (sizes : Sizes) (w : World) (book : Book) (more : List Move) (full : Full) → i ≡ e.input → IsSound sizes e book.number book.all_lists → refused e.input.sizes (token_demands e.input.groups) ≡ Some full →
        Cuts sizes (state_of e book) (record e { input = i }) book w w (keeps ++ more) (broken.Full full)
    unkept_cuts sizes w book more full same sound refuses =
        cuts_by sizes (state_of e book) (record e { input = i }) book w w _ _ (broken.Full full) (ap (λ (ms : List Move). ms ++ more) (kept_by e.input.groups.kinds t inside))
        (unchanged_cuts sizes e i book w (KeptForGroup t) more full same (token_asks sizes e book (Some full) sound refuses))

-- BEHIND AN ASSIGNMENT

-- the token that was kept is none
module _ (e : Engine) (t : Token) (o : Option Token) (none : o ≡ None) (kept : e.after ≡ Some t) where
  abbrev taken : Engine
  taken = record e { after = o }

  abbrev emptied : List Move
  emptied = KeptForAssignment None ∷ []

  behind_is : behind_assignment e.after ≡ emptied ++ put_one t
  behind_is = ap behind_assignment kept

  pub taken_counts : (sizes : Sizes) (book : Book) → Counts sizes e book → Counts sizes taken book
  taken_counts sizes book h = record {
    sound = record {
      sized = record {
        few_reports = h.sound.sized.few_reports;
        own = h.sound.sized.own;
        readings = h.sound.sized.readings;
        conditionals = h.sound.sized.conditionals;
        input = h.sound.sized.input;
        names = h.sound.sized.names;
        located = h.sound.sized.located;
      };
      tied = h.sound.tied;
      bodies = h.sound.bodies;
    };
    depth = h.depth;
  }

  module _ (sizes : Sizes) (w : World) (book : Book) (e' : Engine) where
    emptied_did : Did sizes (state_of e book) (state_of taken book) w w emptied
    emptied_did = did_one sizes (KeptForAssignment None) _ _ w w refl (ap (λ (x : Option Token). record (state_of e book) { after = x }) (sym none)) (quiet_here (KeptForAssignment None) w tt)

    pub behind_did : Did sizes (state_of taken book) (state_of e' book) w w (put_one t) → Did sizes (state_of e book) (state_of e' book) w w (behind_assignment e.after)
    behind_did put =
        subst (λ (ms : List Move). Did sizes (state_of e book) (state_of e' book) w w ms) (sym behind_is)
        (did_join sizes _ (state_of taken book) _ w w w emptied (put_one t) emptied_did put)

    pub behind_cuts : (more : List Move) (b : Broken) → Cuts sizes (state_of taken book) e' book w w (put_one t ++ more) b → Cuts sizes (state_of e book) e' book w w (behind_assignment e.after ++ more) b
    behind_cuts more b cut =
        cuts_by sizes (state_of e book) e' book w w _ _ b (ap (λ (ms : List Move). ms ++ more) behind_is)
        (later_cuts sizes _ (state_of taken book) e' book w w w emptied (put_one t ++ more) b emptied_did cut)
