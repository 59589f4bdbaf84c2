-- The innermost reading takes what stands at the location for which it asked.
use Rattle.std.proofs.Common.{◌≡◌, List, [], ◌∷◌, refl}
use Rattle.tex_defs.specs.declared.Sizes.{Sizes}
use Rattle.equivalents.specs.declared.values.Loc.{Loc}
use Rattle.equivalents.specs.Locations.{SeenValue, value_seen}
use Rattle.equivalents.specs.Tables.{get}
use Rattle.rows.specs.Readings.{Fetched}
use Rattle.plain_readings.specs.Readings.{Reading, fed_with}
use Rattle.plain_machine.specs.States.{Feeds, made}
use Rattle.plain_machine.proofs.Doing.{did_one}
use Rattle.world_io.specs.Contents.{FilesTold, SinkTold}
use Rattle.engine_state.specs.declared.engine.Engine.{Engine}
use Rattle.engine_state.specs.Book.{Book, with_work}
use Rattle.engine_state.specs.Rules.{world_of, Went}
use Rattle.engine_state.specs.Stands.{Stands, SameBut, page_of, state_of}
use Rattle.engine_state.proofs.Uncalled.{all_of}
use Rattle.engine_state.proofs.Joining.{quiet_wrote}

abbrev pub fetched_of : Engine → Book → Loc → SeenValue
fetched_of e book l = value_seen (get (page_of e book).now l)

module _
    (e e' : Engine) (l : Loc)
    (stands : (sizes : Sizes) (book : Book) → Stands sizes e book → Stands sizes e' (with_work (fed_with (Fetched (fetched_of e book l)) book.work) book))
    (state :
    (sizes : Sizes) (book : Book) → Stands sizes e book →
    made (Feeds (Fetched (fetched_of e book l))) (state_of e book) ≡ state_of e' (with_work (fed_with (Fetched (fetched_of e book l)) book.work) book))
    (same : SameBut e e')
  where
    pub fetched_alone : (sizes : Sizes) (book : Book) (r : Reading) (rs : List Reading) (f : FilesTold) (told : SinkTold) → Stands sizes e (with_work (r ∷ rs) book) →
        Went sizes (state_of e (with_work (r ∷ rs) book)) e' (world_of f told e) (world_of f told e') (Feeds (Fetched (fetched_of e book l)) ∷ []) 0
    fetched_alone sizes book r rs f told st = record {
      book' = with_work (fed_with (Fetched (fetched_of e book l)) (r ∷ rs)) book;
      stands = all_of sizes e' (with_work (fed_with (Fetched (fetched_of e book l)) (r ∷ rs)) book) (stands sizes (with_work (r ∷ rs) book) st);
      did = did_one sizes (Feeds (Fetched (fetched_of e book l))) _ _ _ _ refl (state sizes (with_work (r ∷ rs) book) st)
          (quiet_wrote (Feeds (Fetched (fetched_of e book l))) f told e.in_line e'.in_line tt same.others.in_line);
      count = refl;
    }
