-- What each call does to the table and the arrays, as callers see it.
use Rattle.std.proofs.Common.{◌≡◌, ◌≢◌, ℕ, ◌-◌, ◌<◌, List, [], ◌∷◌, ◌++◌, length, Bool, true, false, cond, Option, None, Some, refl, sym, ap, ap₂, ◌∙◌, subst, arith, set, get_or, take}
use Rattle.std.proofs.lemmas.List.{length-set, length-append, set-get_or, get_or_default}
use Rattle.std.proofs.lemmas.Bool.{ne_eqb, eq-eqb, false≢true}
use Rattle.save_stack.specs.declared.Saved.{Saved}
use Rattle.save_stack.specs.Groups.{Stack, level_at, back_values, back_levels, put_top, set_top, add_top, top, below, used, defined, gdefined, opened, with_token, took_back, gone, dropped, last_entry, but_last, is_present, replaced, entry_for, old_value, extended}
use Rattle.save_stack.specs.Closing.{without_token, closed}
use Rattle.save_stack.specs.Table.{maps_of, IsBook, IsSound, stack_of, split, cells}
use Rattle.save_stack.proofs.Split.{split_push, length_add, cells_open, cells_add, last_added, but_added}
use Rattle.save_stack.proofs.Sound.{counts}
use Rattle.save_stack.proofs.Undo.{maps_here, maps_add, maps_all, maps_back, book_add, book_all, book_open, book_taken, entry_within, top_maps, length_back, length_back_levels, maps_push, book_push}
use Rattle.tex_defs.specs.declared.Token.{Token}
use Rattle.save_stack.specs.declared.GroupKind.{GroupKind}

abbrev mk : {V : Type 0} → (size most : ℕ) → List (List V) → List ℕ → List (List (Saved V)) → List (List Token) → List GroupKind → Stack V
mk size most maps levels entries tokens kinds = record { maps = maps; levels = levels; entries = entries; tokens = tokens; kinds = kinds; size = size; most = most }

some_add : {X : Type 0} (x : X) (gs : List (List X)) (n : ℕ) → length (add_top x gs) ≡ n → 0 < n → 0 < length gs
some_add x gs n same some = omega (arith, length_add x gs)

module _ {V : Type 0} (values : List V) (levels : List ℕ) (saved : List (Option (Saved V))) (after : List (Option Token)) (kinds : List GroupKind) (size most a b c rv rl : ℕ) (s : IsSound values levels saved after kinds size most a b c rv rl) where
  abbrev old : Stack V
  old = stack_of values levels saved after kinds size most

  -- the top map is the table
  pub read_top : (loc : ℕ) (r : V) → r ≡ get_or values loc r → r ≡ get_or (top (maps_of values levels (split saved))) loc r
  read_top loc r is = is ∙ ap (λ (m : List V). get_or m loc r) (sym (top_maps values levels (split saved)))

  pub old_is : (loc : ℕ) (r d : V) → loc < length levels → r ≡ get_or values loc r → r ≡ old_value old loc d
  old_is loc r d within is = is ∙ get_or_default values loc r d (omega (arith, within, s.same)) ∙ ap (λ (m : List V). get_or m loc d) (sym (top_maps values levels (split saved)))

  -- a location of another level is in a group
  pub grouped : (loc : ℕ) → is_present old loc ≡ false → 0 < length (split saved)
  grouped loc q = some_group (split saved) s.book s.groups
    where
      some_group : (gs : List (List (Saved V))) → IsBook levels gs → length gs ≡ length kinds → 0 < length gs
      some_group [] book none = absurd (false≢true (sym q ∙ eq-eqb (level_at levels loc) (length kinds) (book loc ∙ none)))
      some_group (g ∷ gs) book some = omega arith

  -- Set at the present level
  module _ (loc : ℕ) (v : V) (within : loc < length levels) (here : level_at levels loc ≡ length kinds) where
    pub here_present : is_present old loc ≡ true
    here_present = eq-eqb (level_at levels loc) (length kinds) here

    pub here_view : stack_of (set values loc v) levels saved after kinds size most ≡ defined old loc v
    here_view =
        let gs = split saved in
        ap (λ (ms : List (List V)). mk size most ms levels gs (split after) kinds) (maps_here values levels gs loc v s.book (here ∙ sym s.groups))
        ∙ ap (λ (l : List ℕ). mk size most (put_top (maps_of values levels gs) loc v) l gs (split after) kinds) (sym (ap (set levels loc) (sym here) ∙ set-get_or levels loc 0))
        ∙ ap (λ (x : Bool). mk size most (put_top (maps_of values levels gs) loc v) (set levels loc (length kinds)) (cond x gs (add_top (entry_for old loc v) gs)) (split after) kinds) (sym here_present)

    pub here_sound : IsSound (set values loc v) levels saved after kinds size most a b c rv rl
    here_sound = record {
      same = s.same ∙ sym (length-set values loc v);
      book = s.book;
      groups = s.groups;
      ends = s.ends;
      saved_cells = s.saved_cells;
      after_cells = s.after_cells;
      fits = s.fits;
      saved_rooms = s.saved_rooms;
      after_rooms = s.after_rooms;
      kinds_rooms = s.kinds_rooms;
      values_rooms = s.values_rooms;
      levels_rooms = s.levels_rooms;
      few = s.few;
      small = s.small;
      most_small = s.most_small;
    }

    pub here_back : (r : V) → r ≡ get_or values loc r → Some r ≡ replaced old loc v
    here_back r is = ap (λ (o : V). let x : Option V = Some o in x) (old_is loc r v within is) ∙ ap (λ (x : Bool). cond x (Some (old_value old loc v)) None) (sym here_present)

  -- Set at another level
  module _ (loc : ℕ) (v r : V) (within : loc < length levels) (other : level_at levels loc ≢ length kinds) (is : r ≡ get_or values loc r)
      (saved' : List (Option (Saved V))) (pushed : saved' ≡ saved ++ Some (let e : Saved V = record { loc = loc; value = r; level = level_at levels loc } in e) ∷ []) where
    abbrev it : Saved V
    it = record { loc = loc; value = r; level = level_at levels loc }

    pub other_present : is_present old loc ≡ false
    other_present = ne_eqb (level_at levels loc) (length kinds) other

    off : level_at levels loc ≢ length (split saved)
    off q = other (q ∙ s.groups)

    split_is : split saved' ≡ add_top it (split saved)
    split_is = ap (λ (os : List (Option (Saved V))). split os) pushed ∙ split_push saved (Some it)

    entry_is : it ≡ entry_for old loc v
    entry_is = ap (λ (x : V). let e : Saved V = record { loc = loc; value = x; level = level_at levels loc } in e) (old_is loc r v within is)

    pub other_view : stack_of (set values loc v) (set levels loc (length kinds)) saved' after kinds size most ≡ defined old loc v
    other_view =
        let gs = split saved in
        let l = set levels loc (length kinds) in
        ap (λ (es : List (List (Saved V))). mk size most (maps_of (set values loc v) l es) l es (split after) kinds) split_is
        ∙ ap (λ (n : ℕ). mk size most (maps_of (set values loc v) (set levels loc n) (add_top it gs)) l (add_top it gs) (split after) kinds) (sym s.groups)
        ∙ ap (λ (ms : List (List V)). mk size most ms l (add_top it gs) (split after) kinds) (maps_add it values levels v r gs s.book (omega (arith, within, s.same)) within is refl off)
        ∙ ap (λ (e : Saved V). mk size most (put_top (maps_of values levels gs) loc v) l (add_top e gs) (split after) kinds) entry_is
        ∙ ap (λ (x : Bool). mk size most (put_top (maps_of values levels gs) loc v) l (cond x gs (add_top (entry_for old loc v) gs)) (split after) kinds) (sym other_present)

    other_some : 0 < length (split saved)
    other_some = some_open (split saved) s.book off
      where
        some_open : (gs : List (List (Saved V))) → IsBook levels gs → level_at levels loc ≢ length gs → 0 < length gs
        some_open [] book off = absurd (off (book loc))
        some_open (g ∷ gs) book off = omega arith

    pub other_sound : (a' : ℕ) → a' ≡ a → used old < size → IsSound (set values loc v) (set levels loc (length kinds)) saved' after kinds size most a' b c rv rl
    other_sound a' room fits =
        let n = counts values levels saved after kinds size most a b c rv rl s in
        let more = ap length pushed ∙ length-append saved (Some it ∷ []) in
        record {
          same = length-set levels loc (length kinds) ∙ s.same ∙ sym (length-set values loc v);
          book = subst (λ (es : List (List (Saved V))). IsBook (set levels loc (length kinds)) es) (sym split_is)
              (subst (λ (k : ℕ). IsBook (set levels loc k) (add_top it (split saved))) s.groups (book_add it levels (split saved) s.book within refl off));
          groups = ap length split_is ∙ length_add it (split saved) ∙ s.groups;
          ends = s.ends;
          saved_cells = omega (arith, more, s.saved_cells, ap cells split_is, cells_add it (split saved) other_some);
          after_cells = s.after_cells;
          fits = omega (arith, more, n.total, fits);
          saved_rooms = omega (arith, room, s.saved_rooms);
          after_rooms = s.after_rooms;
          kinds_rooms = s.kinds_rooms;
          values_rooms = s.values_rooms;
          levels_rooms = s.levels_rooms;
          few = omega (arith, length-set levels loc (length kinds), s.few);
          small = s.small;
          most_small = s.most_small;
        }

  -- SetAll
  module _ (loc : ℕ) (v : V) where
    pub all_view : stack_of (set values loc v) (set levels loc 0) saved after kinds size most ≡ gdefined old loc v
    all_view = ap (λ (ms : List (List V)). mk size most ms (set levels loc 0) (split saved) (split after) kinds) (maps_all values levels (split saved) loc v)

    pub all_sound : IsSound (set values loc v) (set levels loc 0) saved after kinds size most a b c rv rl
    all_sound = record {
      same = length-set levels loc (let n : ℕ = 0 in n) ∙ s.same ∙ sym (length-set values loc v);
      book = book_all levels (split saved) loc s.book;
      groups = s.groups;
      ends = s.ends;
      saved_cells = s.saved_cells;
      after_cells = s.after_cells;
      fits = s.fits;
      saved_rooms = s.saved_rooms;
      after_rooms = s.after_rooms;
      kinds_rooms = s.kinds_rooms;
      values_rooms = s.values_rooms;
      levels_rooms = s.levels_rooms;
      few = omega (arith, length-set levels loc (let n : ℕ = 0 in n), s.few);
      small = s.small;
      most_small = s.most_small;
    }

  -- opening
  module _ (kind : GroupKind) (saved' : List (Option (Saved V))) (after' : List (Option Token)) (kinds' : List GroupKind) (saved_is : saved' ≡ saved ++ None ∷ []) (after_is : after' ≡ after ++ None ∷ []) (kinds_is : kinds' ≡ kinds ++ kind ∷ []) where
    open_split : split saved' ≡ [] ∷ split saved
    open_split = ap (λ (os : List (Option (Saved V))). split os) saved_is ∙ split_push saved None

    open_after : split after' ≡ [] ∷ split after
    open_after = ap (λ (os : List (Option Token)). split os) after_is ∙ split_push after None

    pub open_view : stack_of values levels saved' after' kinds' size most ≡ opened old kind
    open_view =
        ap (λ (es : List (List (Saved V))). mk size most (maps_of values levels es) levels es (split after') kinds') open_split
        ∙ ap₂ (λ (ts : List (List Token)) (ks : List GroupKind). mk size most (values ∷ maps_of values levels (split saved)) levels ([] ∷ split saved) ts ks) open_after kinds_is
        ∙ ap (λ (m : List V). mk size most (m ∷ maps_of values levels (split saved)) levels ([] ∷ split saved) ([] ∷ split after) (kinds ++ kind ∷ [])) (sym (top_maps values levels (split saved)))

    pub open_sound : (a' b' c' : ℕ) → a' ≡ a → b' ≡ b → c' ≡ c → used old < size → IsSound values levels saved' after' kinds' size most a' b' c' rv rl
    open_sound a' b' c' ra rb rc fits =
        let n = counts values levels saved after kinds size most a b c rv rl s in
        let more = ap length saved_is ∙ length-append saved (let o : Option (Saved V) = None in o ∷ []) in
        let ends = ap length after_is ∙ length-append after (let o : Option Token = None in o ∷ []) in
        let deep = ap length kinds_is ∙ length-append kinds (kind ∷ []) in
        record {
          same = s.same;
          book = subst (λ (es : List (List (Saved V))). IsBook levels es) (sym open_split) (book_open levels (split saved) s.book);
          groups = omega (arith, ap length open_split, s.groups, deep);
          ends = omega (arith, ap length open_after, s.ends, deep);
          saved_cells = omega (arith, more, s.saved_cells, ap cells open_split, cells_open (split saved));
          after_cells = omega (arith, ends, s.after_cells, ap cells open_after, cells_open (split after));
          fits = omega (arith, more, ends, deep, n.total, fits);
          saved_rooms = omega (arith, ra, s.saved_rooms);
          after_rooms = omega (arith, rb, s.after_rooms);
          kinds_rooms = omega (arith, rc, s.kinds_rooms);
          values_rooms = s.values_rooms;
          levels_rooms = s.levels_rooms;
          few = s.few;
          small = s.small;
          most_small = s.most_small;
        }

  -- a token for the group's end
  module _ (token : Token) (after' : List (Option Token)) (after_is : after' ≡ after ++ Some token ∷ []) where
    token_split : split after' ≡ add_top token (split after)
    token_split = ap (λ (os : List (Option Token)). split os) after_is ∙ split_push after (Some token)

    pub token_view : stack_of values levels saved after' kinds size most ≡ with_token old token
    token_view = ap (λ (ts : List (List Token)). mk size most (maps_of values levels (split saved)) levels (split saved) ts kinds) token_split

    pub token_sound : (b' : ℕ) → b' ≡ b → 0 < length kinds → used old < size → IsSound values levels saved after' kinds size most a b' c rv rl
    token_sound b' rb some fits =
        let n = counts values levels saved after kinds size most a b c rv rl s in
        let ends = ap length after_is ∙ length-append after (Some token ∷ []) in
        record {
          same = s.same;
          book = s.book;
          groups = s.groups;
          ends = omega (arith, ap length token_split, s.ends, length_add token (split after));
          saved_cells = s.saved_cells;
          after_cells = omega (arith, ends, s.after_cells, ap cells token_split, cells_add token (split after) (omega (arith, some, s.ends)));
          fits = omega (arith, ends, n.total, fits);
          saved_rooms = s.saved_rooms;
          after_rooms = omega (arith, rb, s.after_rooms);
          kinds_rooms = s.kinds_rooms;
          values_rooms = s.values_rooms;
          levels_rooms = s.levels_rooms;
          few = s.few;
          small = s.small;
          most_small = s.most_small;
        }

  -- the last entry is taken back
  module _ (e : Saved V) (rest : List (Option (Saved V))) (popped : saved ≡ rest ++ Some e ∷ []) (some : 0 < length kinds) where
    back_split : split saved ≡ add_top e (split rest)
    back_split = ap (λ (os : List (Option (Saved V))). split os) popped ∙ split_push rest (Some e)

    back_some : 0 < length (split rest)
    back_some = some_add e (split rest) (length kinds) (sym (ap length back_split) ∙ s.groups) some

    pub back_last : last_entry (split saved) ≡ Some e
    back_last = ap (λ (gs : List (List (Saved V))). last_entry gs) back_split ∙ last_added e (split rest) back_some

    pub back_within : e.loc < length levels
    back_within = entry_within e levels (split rest) back_some (subst (λ (es : List (List (Saved V))). IsBook levels es) back_split s.book)

    pub back_view : (t : List V) (l : List ℕ) → back_values e values levels ≡ t → back_levels e levels ≡ l → stack_of t l rest after kinds size most ≡ took_back (last_entry (split saved)) old
    back_view t m t_is m_is =
        let gs = add_top e (split rest) in
        let l = back_levels e levels in
        ap₂ (λ (u : List V) (n : List ℕ). stack_of u n rest after kinds size most) (sym t_is) (sym m_is)
        ∙ ap (λ (ms : List (List V)). mk size most ms l (split rest) (split after) kinds) (maps_back e values levels (split rest) back_some)
        ∙ ap (λ (es : List (List (Saved V))). mk size most (set_top (back_values e (top (maps_of values levels gs)) levels) (maps_of values levels gs)) l es (split after) kinds) (sym (but_added e (split rest) back_some))
        ∙ ap (λ (es : List (List (Saved V))). took_back (Some e) (mk size most (maps_of values levels es) levels es (split after) kinds)) (sym back_split)
        ∙ ap (λ (o : Option (Saved V)). took_back o old) (sym back_last)

    pub back_gone : Some (e.loc, dropped e values levels) ≡ gone (last_entry (split saved)) old
    back_gone =
        ap (λ (m : List V). let x : Option (ℕ × V) = Some (e.loc, dropped e m levels) in x) (sym (top_maps values levels (split saved)))
        ∙ ap (λ (o : Option (Saved V)). gone o old) (sym back_last)

    pub back_sound : (t : List V) (l : List ℕ) → back_values e values levels ≡ t → back_levels e levels ≡ l → (a' : ℕ) → a' ≡ a → IsSound t l rest after kinds size most a' b c rv rl
    back_sound t m t_is m_is a' room =
        let less = ap length popped ∙ length-append rest (Some e ∷ []) in
        record {
          same = omega (arith, length_back_levels e levels, s.same, length_back e values levels, ap length t_is, ap length m_is);
          book = subst (λ (n : List ℕ). IsBook n (split rest)) m_is (book_taken e levels (split rest) back_some (subst (λ (es : List (List (Saved V))). IsBook levels es) back_split s.book));
          groups = sym (length_add e (split rest)) ∙ sym (ap length back_split) ∙ s.groups;
          ends = s.ends;
          saved_cells = omega (arith, less, s.saved_cells, ap cells back_split, cells_add e (split rest) back_some);
          after_cells = s.after_cells;
          fits = omega (arith, less, s.fits);
          saved_rooms = omega (arith, room, s.saved_rooms);
          after_rooms = s.after_rooms;
          kinds_rooms = s.kinds_rooms;
          values_rooms = s.values_rooms;
          levels_rooms = s.levels_rooms;
          few = omega (arith, length_back_levels e levels, ap length m_is, s.few);
          small = s.small;
          most_small = s.most_small;
        }

  -- no entry is left
  module _ (rest : List (Option (Saved V))) (popped : saved ≡ rest ++ None ∷ []) where
    mark_split : split saved ≡ [] ∷ split rest
    mark_split = ap (λ (os : List (Option (Saved V))). split os) popped ∙ split_push rest None

    pub mark_last : last_entry (split saved) ≡ None
    mark_last = ap (λ (gs : List (List (Saved V))). last_entry gs) mark_split

    pub mark_same : took_back (last_entry (split saved)) old ≡ old
    mark_same = ap (λ (o : Option (Saved V)). took_back o old) mark_last

    pub mark_gone : None ≡ gone (last_entry (split saved)) old
    mark_gone = ap (λ (o : Option (Saved V)). gone o old) (sym mark_last)

    pub mark_maps : top (maps_of values levels (split saved)) ≡ top (below (maps_of values levels (split saved)))
    mark_maps =
        let at_mark : top (maps_of values levels ([] ∷ split rest)) ≡ top (below (maps_of values levels ([] ∷ split rest))) = sym (top_maps values levels (split rest)) in
        subst (λ (es : List (List (Saved V))). top (maps_of values levels es) ≡ top (below (maps_of values levels es))) (sym mark_split) at_mark

    -- the group goes
    module _ (after' : List (Option Token)) (ended : after ≡ after' ++ None ∷ []) (kinds' : List GroupKind) (kind : GroupKind) (kinds_are : kinds ≡ kinds' ++ kind ∷ []) (kinds_take : kinds' ≡ take (length kinds - 1) kinds) where
      end_split : split after ≡ [] ∷ split after'
      end_split = ap (λ (os : List (Option Token)). split os) ended ∙ split_push after' None

      pub end_last : last_entry (split after) ≡ None
      end_last = ap (λ (ts : List (List Token)). last_entry ts) end_split

      pub close_view : stack_of values levels rest after' kinds' size most ≡ closed old
      close_view =
          ap (λ (ks : List GroupKind). mk size most (maps_of values levels (split rest)) levels (split rest) (split after') ks) kinds_take
          ∙ ap (λ (es : List (List (Saved V))). mk size most (below (maps_of values levels es)) levels (below es) (split after') (take (length kinds - 1) kinds)) (sym mark_split)
          ∙ ap (λ (ts : List (List Token)). mk size most (below (maps_of values levels (split saved))) levels (below (split saved)) (below ts) (take (length kinds - 1) kinds)) (sym end_split)

      pub close_sound : (a' b' c' : ℕ) → a' ≡ a → b' ≡ b → c' ≡ c → IsSound values levels rest after' kinds' size most a' b' c' rv rl
      close_sound a' b' c' ra rb rc =
          let less = ap length popped ∙ length-append rest (let o : Option (Saved V) = None in o ∷ []) in
          let ends = ap length ended ∙ length-append after' (let o : Option Token = None in o ∷ []) in
          let deep = ap length kinds_are ∙ length-append kinds' (kind ∷ []) in
          let booked : IsBook levels ([] ∷ split rest) = subst (λ (es : List (List (Saved V))). IsBook levels es) mark_split s.book in
          record {
            same = s.same;
            book = booked.3;
            groups = omega (arith, ap length mark_split, s.groups, deep);
            ends = omega (arith, ap length end_split, s.ends, deep);
            saved_cells = omega (arith, less, s.saved_cells, ap cells mark_split, cells_open (split rest));
            after_cells = omega (arith, ends, s.after_cells, ap cells end_split, cells_open (split after'));
            fits = omega (arith, less, ends, deep, s.fits);
            saved_rooms = omega (arith, ra, s.saved_rooms);
            after_rooms = omega (arith, rb, s.after_rooms);
            kinds_rooms = omega (arith, rc, s.kinds_rooms);
            values_rooms = s.values_rooms;
            levels_rooms = s.levels_rooms;
            few = s.few;
            small = s.small;
            most_small = s.most_small;
          }

  -- a token is handed out
  module _ (token : Token) (after' : List (Option Token)) (popped : after ≡ after' ++ Some token ∷ []) (some : 0 < length kinds) where
    taken_split : split after ≡ add_top token (split after')
    taken_split = ap (λ (os : List (Option Token)). split os) popped ∙ split_push after' (Some token)

    taken_some : 0 < length (split after')
    taken_some = some_add token (split after') (length kinds) (sym (ap length taken_split) ∙ s.ends) some

    pub taken_last : last_entry (split after) ≡ Some token
    taken_last = ap (λ (ts : List (List Token)). last_entry ts) taken_split ∙ last_added token (split after') taken_some

    pub taken_view : stack_of values levels saved after' kinds size most ≡ without_token old
    taken_view = ap (λ (ts : List (List Token)). mk size most (maps_of values levels (split saved)) levels (split saved) ts kinds) (sym (but_added token (split after') taken_some) ∙ ap (λ (ts : List (List Token)). but_last ts) (sym taken_split))

    pub taken_sound : (b' : ℕ) → b' ≡ b → IsSound values levels saved after' kinds size most a b' c rv rl
    taken_sound b' rb =
        let less = ap length popped ∙ length-append after' (Some token ∷ []) in
        record {
          same = s.same;
          book = s.book;
          groups = s.groups;
          ends = sym (length_add token (split after')) ∙ sym (ap length taken_split) ∙ s.ends;
          saved_cells = s.saved_cells;
          after_cells = omega (arith, less, s.after_cells, ap cells taken_split, cells_add token (split after') taken_some);
          fits = omega (arith, less, s.fits);
          saved_rooms = s.saved_rooms;
          after_rooms = omega (arith, rb, s.after_rooms);
          kinds_rooms = s.kinds_rooms;
          values_rooms = s.values_rooms;
          levels_rooms = s.levels_rooms;
          few = s.few;
          small = s.small;
          most_small = s.most_small;
        }

  -- one location more
  module _ (v : V) where
    pub push_view : stack_of (values ++ v ∷ []) (levels ++ 0 ∷ []) saved after kinds size most ≡ extended old v
    push_view = ap (λ (ms : List (List V)). mk size most ms (levels ++ 0 ∷ []) (split saved) (split after) kinds) (maps_push values levels (split saved) v s.same s.book)

    pub push_sound : (rv' rl' : ℕ) → rv' ≡ rv → rl' ≡ rl → length levels < most → IsSound (values ++ v ∷ []) (levels ++ 0 ∷ []) saved after kinds size most a b c rv' rl'
    push_sound rv' rl' v_is l_is less = record {
      same = omega (arith, length-append values (v ∷ []), length-append levels (let n : ℕ = 0 in n ∷ []), s.same);
      book = book_push levels (split saved) s.book;
      groups = s.groups;
      ends = s.ends;
      saved_cells = s.saved_cells;
      after_cells = s.after_cells;
      fits = s.fits;
      saved_rooms = s.saved_rooms;
      after_rooms = s.after_rooms;
      kinds_rooms = s.kinds_rooms;
      values_rooms = omega (arith, v_is, s.values_rooms);
      levels_rooms = omega (arith, l_is, s.levels_rooms);
      few = omega (arith, length-append levels (let n : ℕ = 0 in n ∷ []), less);
      small = s.small;
      most_small = s.most_small;
    }
