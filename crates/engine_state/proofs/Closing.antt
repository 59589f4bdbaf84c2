-- The tokens that come after a group are put in front.
use Rattle.std.proofs.Common.{◌≡◌, ◌<◌, List, [], ◌∷◌, ◌++◌, length, refl, sym, ap, ◌∙◌, subst, append_assoc, arith}
use Rattle.std.specs.Prelude.{None}
use Rattle.std.proofs.lemmas.List.{append-nil}
use Rattle.tex_defs.specs.Places.{World}
use Rattle.tex_defs.specs.declared.Sizes.{Sizes}
use Rattle.tex_defs.specs.declared.Token.{Token}
use Rattle.plain_machine.specs.declared.broken.Broken.{Broken}
use Rattle.plain_machine.specs.States.{State, Move}
use Rattle.plain_machine.specs.Plan.{put_one, put_each}
use Rattle.plain_machine.specs.Does.{Did}
use Rattle.plain_machine.proofs.Doing.{did_join, did_none}
use Rattle.input_state.specs.Stored.{Stored, KeepsShared}
use Rattle.reading_frames.specs.Stack.{Stack}
use Rattle.engine_state.specs.declared.engine.Engine.{Engine}
use Rattle.engine_state.specs.Book.{Book}
use Rattle.engine_state.specs.Rules.{Cuts}
use Rattle.engine_state.specs.Stands.{IsSound, Counts, SameFrames, SameOthers, SameStore, state_of}
use Rattle.plain_machine.specs.Weights.{pending_weight}
use Rattle.engine_state.proofs.Cutting.{cuts_by, later_cuts}
use Rattle.engine_state.proofs.Grouping.{grouped_frames, grouped_sound}
use Rattle.engine_state.proofs.Putting.{counts_still}
use Rattle.engine_state.proofs.Storing.{sound_still}

each_join : (xs ys : List Token) → put_each (xs ++ ys) ≡ put_each xs ++ put_each ys
each_join [] ys = refl
each_join (x ∷ xs) ys = ap (λ (ms : List Move). put_one x ++ ms) (each_join xs ys) ∙ sym (append_assoc (put_one x) (put_each xs) (put_each ys))

-- WHAT STAYS

pub record IsKept (e e1 : Engine) : Type 0 where
  pub frames : SameFrames e e1
  pub others : SameOthers e e1
  pub sound : (sizes : Sizes) (book : Book) → IsSound sizes e book.number book.all_lists → IsSound sizes e1 book.number book.all_lists
  pub light : pending_weight e1.input.pending ≡ pending_weight e.input.pending

others_same : (e : Engine) (i : Stored) → SameOthers e (record e { input = i })
others_same e i = record { depth = refl; names = refl; after = refl; mag_set = refl; conditionals = refl; last = refl; naming = refl; in_line = refl; reports = refl; flawed = refl; quiet = refl; sizes = refl }

pub kept_join : (e e1 e2 : Engine) → IsKept e e1 → IsKept e1 e2 → IsKept e e2
kept_join e e1 e2 a b = record {
  frames = record { readings = b.frames.readings ∙ a.frames.readings; lists = b.frames.lists ∙ a.frames.lists; call = b.frames.call ∙ a.frames.call };
  others = record {
    depth = b.others.depth ∙ a.others.depth;
    names = b.others.names ∙ a.others.names;
    after = b.others.after ∙ a.others.after;
    mag_set = b.others.mag_set ∙ a.others.mag_set;
    conditionals = b.others.conditionals ∙ a.others.conditionals;
    last = b.others.last ∙ a.others.last;
    naming = b.others.naming ∙ a.others.naming;
    in_line = b.others.in_line ∙ a.others.in_line;
    reports = b.others.reports ∙ a.others.reports;
    flawed = b.others.flawed ∙ a.others.flawed;
    quiet = b.others.quiet ∙ a.others.quiet;
    sizes = b.others.sizes ∙ a.others.sizes;
  };
  sound = λ sizes book h. b.sound sizes book (a.sound sizes book h);
  light = b.light ∙ a.light;
}

pub kept_self : (e : Engine) → IsKept e e
kept_self e = record {
  frames = record { readings = refl; lists = refl; call = refl };
  others = others_same e e.input;
  sound = λ sizes book h. h;
  light = refl;
}

-- where a token is put
kept_put : (e e1 : Engine) → SameFrames e e1 → SameOthers e e1 → SameStore e.input e1.input → pending_weight e1.input.pending ≡ pending_weight e.input.pending → IsKept e e1
kept_put e e1 frames others store light = record {
  frames = frames;
  others = others;
  sound = λ sizes book h. sound_still sizes e e1 book.number book.all_lists others.sizes (ap (λ (s : Stack). s.size) frames.readings) others.conditionals others.names others.reports store h;
  light = light;
}

-- THE NEXT TOKEN is given

module _ (e : Engine) (i : Stored) (is : i ≡ record e.input { closing = i.closing; ending = i.ending }) where
  abbrev pub given : Engine
  given = record e { input = i }

  keeps : KeepsShared e.input i
  keeps = subst (KeepsShared e.input) (sym is) (record { tokens = λ n h. refl })

  pub kept_given : IsKept e given
  kept_given = record {
    frames = grouped_frames e e.input.groups i.closing i.ending e.input.lists i is;
    others = others_same e i;
    sound = λ sizes book h. grouped_sound e e.input.groups i.closing i.ending e.input.lists i is refl (λ n h. h) keeps sizes book.number book.all_lists h;
    light = ap (λ (j : Stored). pending_weight j.pending) is;
  }

  pub given_state : (book : Book) → state_of given book ≡ state_of e book
  given_state book = ap (λ (j : Stored). state_of (record e { input = j }) book) is

-- SO MANY TOKENS WERE PUT, and the others are still to be given

pub record HasPut (e e1 : Engine) : Type 0 where
  pub kept : IsKept e e1
  pub ending : e1.input.ending ≡ e.input.ending
  pub idle : e1.input.making ≡ None
  pub front : List Token
  pub split : e.input.closing ≡ front ++ e1.input.closing
  pub did : (sizes : Sizes) (w : World) (book : Book) → Counts sizes e book → Did sizes (state_of e book) (state_of e1 book) w w (put_each front)

pub put_none : (e : Engine) → e.input.making ≡ None → HasPut e e
put_none e idle = record { kept = kept_self e; ending = refl; idle = idle; front = []; split = refl; did = λ sizes w book counts. did_none sizes (state_of e book) w }

pub put_fewer : (e1 : Engine) (i : Stored) (t : Token) → e1.input.closing ≡ t ∷ i.closing → length i.closing < length e1.input.closing
put_fewer e1 i t next = omega (arith, ap length next)

module _ (e e1 : Engine) (h : HasPut e e1) (i : Stored) (is : i ≡ record e1.input { closing = i.closing; ending = i.ending }) where
  counts_given : (sizes : Sizes) (book : Book) → Counts sizes e book → Counts sizes (given e1 i is) book
  counts_given sizes book counts =
      let k = kept_join e e1 (given e1 i is) h.kept (kept_given e1 i is) in
      counts_still sizes e (given e1 i is) book k.frames (k.sound sizes book counts.sound) counts

  did_given : (sizes : Sizes) (w : World) (book : Book) → Counts sizes e book → Did sizes (state_of e book) (state_of (given e1 i is) book) w w (put_each h.front)
  did_given sizes w book counts = subst (λ (s : State). Did sizes (state_of e book) s w w (put_each h.front)) (sym (given_state e1 i is book)) (h.did sizes w book counts)

  -- one more
  module _ (t : Token) (next : e1.input.closing ≡ t ∷ i.closing) where
    split_on : e.input.closing ≡ h.front ++ t ∷ i.closing
    split_on = h.split ∙ ap (λ (ts : List Token). h.front ++ ts) next

    pub put_cuts : (e2 : Engine) (b : Broken) →
        ((sizes : Sizes) (w : World) (book : Book) (more : List Move) → Counts sizes (given e1 i is) book → (given e1 i is).input.making ≡ None → Cuts sizes (state_of (given e1 i is) book) e2 book w w (put_one t ++ more) b) →
        (sizes : Sizes) (w : World) (book : Book) → Counts sizes e book → Cuts sizes (state_of e book) e2 book w w (put_each e.input.closing) b
    put_cuts e2 b cuts sizes w book counts =
        cuts_by sizes (state_of e book) e2 book w w _ _ b (ap put_each split_on ∙ each_join h.front (t ∷ i.closing))
        (later_cuts sizes (state_of e book) (state_of (given e1 i is) book) e2 book w w w (put_each h.front) (put_one t ++ put_each i.closing) b (did_given sizes w book counts)
        (cuts sizes w book (put_each i.closing) (counts_given sizes book counts) (ap (λ (j : Stored). j.making) is ∙ h.idle)))

    pub put_on : (e2 : Engine) → IsKept (given e1 i is) e2 → SameStore i e2.input → i.ending ≡ e1.input.ending → e2.input.making ≡ None →
        ((sizes : Sizes) (w : World) (book : Book) → Counts sizes (given e1 i is) book → (given e1 i is).input.making ≡ None → Did sizes (state_of (given e1 i is) book) (state_of e2 book) w w (put_one t)) → HasPut e e2
    put_on e2 kept store stays idle did = record {
      kept = kept_join e (given e1 i is) e2 (kept_join e e1 (given e1 i is) h.kept (kept_given e1 i is)) kept;
      ending = store.ending ∙ stays ∙ h.ending;
      idle = idle;
      front = h.front ++ t ∷ [];
      split = split_on ∙ sym (append_assoc h.front (t ∷ []) i.closing) ∙ ap (λ (ts : List Token). (h.front ++ t ∷ []) ++ ts) (sym store.closing);
      did = λ sizes w book counts. subst (λ (ms : List Move). Did sizes (state_of e book) (state_of e2 book) w w ms) (sym (each_join h.front (t ∷ [])))
          (did_join sizes (state_of e book) (state_of (given e1 i is) book) (state_of e2 book) w w w (put_each h.front) (put_one t) (did_given sizes w book counts)
          (did sizes w book (counts_given sizes book counts) (ap (λ (j : Stored). j.making) is ∙ h.idle)));
    }

    -- and what stays, put or not
    pub put_kept : (e2 : Engine) → SameFrames (given e1 i is) e2 → SameOthers (given e1 i is) e2 → SameStore i e2.input → pending_weight e2.input.pending ≡ pending_weight i.pending → IsKept (given e1 i is) e2
    put_kept e2 frames others store light = kept_put (given e1 i is) e2 frames others store light

    pub put_stays : (e2 : Engine) → IsKept (given e1 i is) e2 → IsKept e e2
    put_stays e2 kept = kept_join e (given e1 i is) e2 (kept_join e e1 (given e1 i is) h.kept (kept_given e1 i is)) kept

  -- all of them
  pub all_put : e1.input.closing ≡ [] → (sizes : Sizes) (w : World) (book : Book) → Counts sizes e book → Did sizes (state_of e book) (state_of (given e1 i is) book) w w (put_each e.input.closing)
  all_put none sizes w book counts =
      subst (λ (ts : List Token). Did sizes (state_of e book) (state_of (given e1 i is) book) w w (put_each ts)) (sym (h.split ∙ ap (λ (ts : List Token). h.front ++ ts) none ∙ append-nil h.front)) (did_given sizes w book counts)

  pub all_kept : IsKept e (given e1 i is)
  all_kept = kept_join e e1 (given e1 i is) h.kept (kept_given e1 i is)
