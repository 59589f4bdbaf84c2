-- A group ends.
use Rattle.std.proofs.Common.{◌≡◌, List, [], ◌∷◌, length, refl, sym, ap, ◌∙◌, subst}
use Rattle.std.specs.Prelude.{None}
use Rattle.tex_defs.specs.Places.{World}
use Rattle.tex_defs.specs.declared.Sizes.{Sizes}
use Rattle.tex_defs.specs.declared.Token.{Token}
use Rattle.equivalents.specs.Groups.{Groups, closed, uncovered, current_group, tokens_after}
use Rattle.equivalents.specs.Tables.{Tables}
use Rattle.equivalents.specs.Laws.{AreAlike, EachNames}
use Rattle.plain_machine.specs.declared.broken.Broken.{Broken}
use Rattle.plain_machine.specs.States.{Move, GroupClosed}
use Rattle.plain_machine.specs.Plan.{put_each, group_ended}
use Rattle.plain_machine.specs.Does.{Did}
use Rattle.plain_machine.proofs.Doing.{did_join}
use Rattle.plain_machine.proofs.GroupNumbers.{closed_of}
use Rattle.plain_machine.proofs.Holders.{OutsideIsHeld, closed_held}
use Rattle.input_state.specs.Stored.{Stored, KeepsShared}
use Rattle.engine_state.specs.declared.engine.Engine.{Engine}
use Rattle.engine_state.specs.Book.{Book}
use Rattle.engine_state.specs.Rules.{Cuts}
use Rattle.engine_state.specs.Stands.{IsSound, Stands, Counts, SameFrames, state_of, page_of}
use Rattle.engine_state.proofs.CallKept.{frames_kept}
use Rattle.engine_state.proofs.Counting.{counts_of}
use Rattle.engine_state.proofs.Cutting.{cuts_by, later_cuts}
use Rattle.engine_state.proofs.Grouping.{grouped_did, grouped_stands}

-- the names have as many locations then
outer_length : (m : Tables) (ms : List Tables) → EachNames (length m.meanings) ms → length (uncovered m ms).meanings ≡ length m.meanings
outer_length m [] h = refl
outer_length m (n ∷ ns) h = h.0

module _ (e : Engine) (i : Stored) (is : i ≡ record e.input { groups = closed e.input.groups; closing = tokens_after e.input.groups; ending = current_group e.input.groups; lists = i.lists }) where
  abbrev gone : Engine
  gone = record e { input = i }

  gone_did : (sizes : Sizes) (w : World) (book : Book) → Did sizes (state_of e book) (state_of gone book) w w (GroupClosed ∷ [])
  gone_did sizes w book =
      grouped_did e (closed e.input.groups) (tokens_after e.input.groups) (current_group e.input.groups) i.lists i is sizes w book GroupClosed tt refl
      (ap (λ (g : Groups). record (state_of e book) { groups = g }) (closed_of book.number e.input.groups))

  ended_is : (book : Book) → group_ended (page_of e book) ≡ GroupClosed ∷ put_each i.closing
  ended_is book = ap (λ (ts : List Token). GroupClosed ∷ put_each ts) (sym (ap (λ (j : Stored). j.closing) is))

  module _ (outside : OutsideIsHeld e.input.groups) (alike : AreAlike e.input.groups) (kept : KeepsShared e.input i) where
    gone_stands : (sizes : Sizes) (book : Book) → Stands sizes e book → Stands sizes gone book
    gone_stands sizes book st =
        grouped_stands e (closed e.input.groups) (tokens_after e.input.groups) (current_group e.input.groups) i.lists i is (outer_length e.input.groups.now e.input.groups.outer alike)
        (λ n h. closed_held n e.input.groups outside h) kept sizes book st

    pub ended_did : (e2 : Engine) → ((sizes : Sizes) (w : World) (book : Book) → Counts sizes gone book → Did sizes (state_of gone book) (state_of e2 book) w w (put_each i.closing)) →
        (sizes : Sizes) (w : World) (book : Book) → Stands sizes e book → Did sizes (state_of e book) (state_of e2 book) w w (group_ended (page_of e book))
    ended_did e2 did sizes w book st =
        subst (λ (ms : List Move). Did sizes (state_of e book) (state_of e2 book) w w ms) (sym (ended_is book))
        (did_join sizes (state_of e book) (state_of gone book) (state_of e2 book) w w w (GroupClosed ∷ []) (put_each i.closing) (gone_did sizes w book) (did sizes w book (counts_of sizes gone book (gone_stands sizes book st))))

    pub ended_cuts : (e2 : Engine) (b : Broken) → ((sizes : Sizes) (w : World) (book : Book) → Counts sizes gone book → Cuts sizes (state_of gone book) e2 book w w (put_each i.closing) b) →
        (sizes : Sizes) (w : World) (book : Book) → Stands sizes e book → Cuts sizes (state_of e book) e2 book w w (group_ended (page_of e book)) b
    ended_cuts e2 b cuts sizes w book st =
        cuts_by sizes (state_of e book) e2 book w w _ _ b (ended_is book)
        (later_cuts sizes (state_of e book) (state_of gone book) e2 book w w w (GroupClosed ∷ []) (put_each i.closing) b (gone_did sizes w book) (cuts sizes w book (counts_of sizes gone book (gone_stands sizes book st))))

    pub ended_stands : (e2 : Engine) → SameFrames gone e2 → ((sizes : Sizes) (book : Book) → IsSound sizes gone book.number book.all_lists → IsSound sizes e2 book.number book.all_lists) → e2.input.making ≡ None →
        (sizes : Sizes) (book : Book) → Stands sizes e book → Stands sizes e2 book
    ended_stands e2 same sound idle sizes book st = let now = gone_stands sizes book st in record {
      sound = sound sizes book now.sound;
      idle = idle;
      readings = frames_kept gone e2 book.work same now.readings;
      uncalled = same.call ∙ now.uncalled;
    }
