-- A made text that is put in front.
use Rattle.std.proofs.Common.{◌≡◌, ℕ, ◌+◌, ◌<◌, ◌≤◌, List, [], ◌∷◌, ◌++◌, length, take, drop, get_or, map, refl, sym, ap, ◌∙◌, subst, append_assoc, append-nil, add-one, take_all, arith}
use Rattle.std.specs.Prelude.{Option, Some, None, IsSome}
use Rattle.std.proofs.Math.Seq.{take-suc}
use Rattle.std.proofs.lemmas.List.{length-append, map-append, take-append-drop}
use Rattle.tex_defs.specs.declared.Token.{Token}
use Rattle.tex_defs.specs.declared.Sizes.{Sizes}
use Rattle.tex_defs.specs.declared.Full.{Full}
use Rattle.tex_defs.specs.Places.{World}
use Rattle.plain_tokens.specs.Puts.{Put as PutList, grown_by, without_ended, token_put}
use Rattle.plain_tokens.specs.Pending.{Pending, end_token_lists, with_puts, put_front}
use Rattle.plain_tokens.specs.Tokens.{made_token, made_text}
use Rattle.plain_tokens.specs.Tables.{Demand, refused, memory, level}
use Rattle.plain_machine.specs.declared.broken.Broken.{Broken}
use Rattle.plain_machine.specs.declared.broken.Broken.TheVariants as broken
use Rattle.plain_machine.specs.States.{State, Move, ListsEnded, ListBegun, ListGrown, Put, made}
use Rattle.plain_machine.specs.Demands.{refusal}
use Rattle.plain_machine.specs.Plan.{put_text, put_made}
use Rattle.plain_machine.specs.Numbers.{pending_of}
use Rattle.plain_machine.specs.Does.{Did}
use Rattle.plain_machine.proofs.Doing.{did_join, did_one, did_none}
use Rattle.plain_machine.proofs.Renumbering.{settle_of, level_of, put_front_of}
use Rattle.input_state.specs.AtLocations.{appended_made, AppendsShort, with_appended_made}
use Rattle.input_state.specs.Stored.{Stored, KeepsShared, words as stored_words}
use Rattle.input_state.specs.HeldLists.{made as made_list}
use Rattle.input_state.proofs.Refusing.{memory_room}
use Rattle.plain_machine.specs.Weights.{pending_weight}
use Rattle.engine_state.specs.declared.engine.Engine.{Engine}
use Rattle.engine_state.specs.Book.{Book}
use Rattle.engine_state.specs.Making.{HasGrown, GrowsNot, IsInFront}
use Rattle.engine_state.specs.Stands.{IsSound, SameStore, state_of, page_of}
use Rattle.engine_state.specs.Rules.{Cuts}
use Rattle.engine_state.proofs.Cutting.{cuts_by, later_cuts, full_cuts}
use Rattle.engine_state.proofs.Joining.{IsQuiet, quiet_here}
use Rattle.engine_state.proofs.Putting.{settled_still}
use Rattle.engine_state.proofs.AtLocations.{frames_join}
use Rattle.engine_state.proofs.Storing.{store_same, store_join, store_making, store_settled, sound_still, words_more}

-- MOVES ON THE INPUT ALONE

abbrev with_input : Engine → Stored → Engine
with_input e i = record e { input = i }

module _ (sizes : Sizes) (e : Engine) (w : World) (book : Book) where
  abbrev at : Stored → State
  at i = state_of (with_input e i) book

  moved : (i j : Stored) (m : Move) → refusal sizes m (at i) ≡ None → made m (at i) ≡ at j → IsQuiet m → Did sizes (at i) (at j) w w (m ∷ [])
  moved i j m fits is q = did_one sizes m _ _ w w fits is (quiet_here m w q)

  sound_in : (i j : Stored) → SameStore i j → IsSound sizes (with_input e i) book.number book.all_lists → IsSound sizes (with_input e j) book.number book.all_lists
  sound_in i j store sound = sound_still sizes (with_input e i) (with_input e j) book.number book.all_lists refl refl refl refl refl store sound

-- THE LIST GROWS

with_none : (o : Option (List Token)) → appended_made [] o ≡ o
with_none None = refl
with_none (Some ts) = ap (λ (us : List Token). Some us) (append-nil ts)

with_one : (t : Token) (o : Option (List Token)) → grown_by t o ≡ appended_made (t ∷ []) o
with_one t None = refl
with_one t (Some ts) = refl

with_both : (ts us : List Token) (o : Option (List Token)) → appended_made us (appended_made ts o) ≡ appended_made (ts ++ us) o
with_both ts us None = refl
with_both ts us (Some before) = ap (λ (vs : List Token). Some vs) (append_assoc before ts us)

pub with_some : (ts : List Token) (o : Option (List Token)) → IsSome o → IsSome (appended_made ts o)
with_some ts None h = cc
with_some ts (Some us) h = h

growth_store : (i j : Stored) (ts : List Token) → HasGrown i j ts → SameStore i j
growth_store i j ts h = store_making i j (appended_made ts i.making) h.is h.keeps

pub grown_none : (i : Stored) → HasGrown i i []
grown_none i = record {
  is = ap (λ (o : Option (List Token)). record i { making = o }) (sym (with_none i.making));
  keeps = (store_same i).lists;
  did = λ sizes e w book sound. did_none sizes (state_of (record e { input = i }) book) w;
}

pub grown_one : (i j : Stored) (t : Token) → j ≡ record i { making = grown_by t i.making; lists = j.lists } → KeepsShared i j → refused i.sizes (memory 1 (stored_words i) ∷ []) ≡ None → HasGrown i j (t ∷ [])
grown_one i j t is kept fits = record {
  is = is ∙ ap (λ (o : Option (List Token)). record i { making = o; lists = j.lists }) (with_one t i.making);
  keeps = kept;
  did = λ sizes e w book sound. moved sizes e w book i j (ListGrown t) (words_more sizes (with_input e i) book 1 None sound fits) (ap (at sizes e w book) (sym is)) tt;
}

pub grown_not : (i j : Stored) (t : Token) (full : Full) → j ≡ i → refused i.sizes (memory 1 (stored_words i) ∷ []) ≡ Some full → GrowsNot i j (t ∷ []) full
grown_not i j t full same r = record {
  is = subst (λ (x : Stored). x ≡ record i { making = x.making; lists = x.lists }) (sym same) refl;
  keeps = subst (λ (x : Stored). KeepsShared i x) (sym same) (store_same i).lists;
  cuts = λ sizes e w book more sound. full_cuts sizes (at sizes e w book i) (with_input e j) book w (ListGrown t) more full (broken.Full full) refl (words_more sizes (with_input e i) book 1 (Some full) sound r) (ap (at sizes e w book) (sym same));
}

module _ (i j k : Stored) (ts us : List Token) (h : HasGrown i j ts) where
  both_at : (sizes : Sizes) (e : Engine) (w : World) (book : Book) → IsSound sizes (record e { input = i }) book.number book.all_lists → IsSound sizes (record e { input = j }) book.number book.all_lists
  both_at sizes e w book sound = sound_in sizes e w book i j (growth_store i j ts h) sound

  pub grown_both : HasGrown j k us → HasGrown i k (ts ++ us)
  grown_both g = record {
    is = g.is ∙ ap (λ (x : Stored). record x { making = appended_made us x.making; lists = k.lists }) h.is ∙ ap (λ (o : Option (List Token)). record i { making = o; lists = k.lists }) (with_both ts us i.making);
    keeps = (store_join i j k (growth_store i j ts h) (growth_store j k us g)).lists;
    did = λ sizes e w book sound.
        subst (λ (ms : List Move). Did sizes (state_of (record e { input = i }) book) (state_of (record e { input = k }) book) w w ms) (sym (map-append ListGrown ts us))
        (did_join sizes _ _ _ w w w (map ListGrown ts) (map ListGrown us) (h.did sizes e w book sound) (g.did sizes e w book (both_at sizes e w book sound)));
  }

  pub later_not : (full : Full) → GrowsNot j k us full → GrowsNot i k (ts ++ us) full
  later_not full g = record {
    is = g.is ∙ ap (λ (x : Stored). record x { making = k.making; lists = k.lists }) h.is;
    keeps = (store_join i j k (growth_store i j ts h) (store_making j k k.making g.is g.keeps)).lists;
    cuts = λ sizes e w book more sound.
        cuts_by sizes _ (with_input e k) book w w (map ListGrown ts ++ (map ListGrown us ++ more)) (map ListGrown (ts ++ us) ++ more) (broken.Full full)
        (ap (λ (ms : List Move). ms ++ more) (map-append ListGrown ts us) ∙ append_assoc (map ListGrown ts) (map ListGrown us) more)
        (later_cuts sizes _ (at sizes e w book j) (with_input e k) book w w w (map ListGrown ts) (map ListGrown us ++ more) (broken.Full full) (h.did sizes e w book sound) (g.cuts sizes e w book more (both_at sizes e w book sound)));
  }

pub first_not : (i k : Stored) (ts us : List Token) (full : Full) → GrowsNot i k ts full → GrowsNot i k (ts ++ us) full
first_not i k ts us full g = record {
  is = g.is;
  keeps = g.keeps;
  cuts = λ sizes e w book more sound.
      cuts_by sizes _ (with_input e k) book w w (map ListGrown ts ++ (map ListGrown us ++ more)) (map ListGrown (ts ++ us) ++ more) (broken.Full full)
      (ap (λ (ms : List Move). ms ++ more) (map-append ListGrown ts us) ∙ append_assoc (map ListGrown ts) (map ListGrown us) more)
      (g.cuts sizes e w book (map ListGrown us ++ more) sound);
}

pub not_by : (i k : Stored) (ts us : List Token) (full : Full) → us ≡ ts → GrowsNot i k ts full → GrowsNot i k us full
not_by i k ts us full is g = subst (λ (x : List Token). GrowsNot i k x full) (sym is) g

-- ALL OF THESE TOKENS AT ONCE

-- one word more
one_more : (i : Stored) (t : Token) → IsSome i.making → stored_words (record i { making = grown_by t i.making }) ≡ stored_words i + 1
one_more i t some = by_making i.making some where
  by_making : (o : Option (List Token)) → IsSome o → stored_words (record i { making = grown_by t o }) ≡ stored_words (record i { making = o }) + 1
  by_making None h = cc
  by_making (Some us) h = omega (arith, length-append us (t ∷ []))

grown_whole : (ts : List Token) (i : Stored) → IsSome i.making → stored_words i + length ts ≤ i.sizes.main_memory_size → HasGrown i (record i { making = appended_made ts i.making }) ts
grown_whole [] i some fits = subst (λ (o : Option (List Token)). HasGrown i (record i { making = o }) []) (sym (with_none i.making)) (grown_none i)
grown_whole (t ∷ ts) i some fits =
    let j : Stored = record i { making = grown_by t i.making } in
    let one : appended_made (t ∷ []) i.making ≡ j.making = sym (with_one t i.making) in
    let first : HasGrown i j (t ∷ []) = grown_one i j t refl (store_same i).lists (memory_room i.sizes (stored_words i) 1 (omega (arith, fits))) in
    let rest : HasGrown j (record j { making = appended_made ts j.making }) ts = grown_whole ts j (subst IsSome one (with_some (t ∷ []) i.making some)) (omega (arith, fits, one_more i t some)) in
    let joined : appended_made ts j.making ≡ appended_made (t ∷ ts) i.making = ap (appended_made ts) (with_one t i.making) ∙ with_both (t ∷ []) ts i.making in
    subst (λ (o : Option (List Token)). HasGrown i (record i { making = o }) (t ∷ ts)) joined (grown_both i j (record j { making = appended_made ts j.making }) (t ∷ []) ts first rest)

pub grown_at_once : (i j : Stored) (ts : List Token) → j ≡ record i { making = appended_made ts i.making; lists = j.lists } → KeepsShared i j → IsSome i.making → stored_words i + length ts ≤ i.sizes.main_memory_size → HasGrown i j ts
grown_at_once i j ts is kept some fits = record {
  is = is;
  keeps = kept;
  did = λ sizes e w book sound. subst (λ (x : Stored). Did sizes (state_of (record e { input = i }) book) (state_of (record e { input = x }) book) w w (map ListGrown ts)) (sym is) ((grown_whole ts i some fits).did sizes e w book sound);
}

-- one of them has no room
pub short_not : (i j : Stored) (ts : List Token) (full : Full) → AppendsShort with_appended_made ts i j full → KeepsShared i j → IsSome i.making → GrowsNot i j ts full
short_not i j ts full h kept some =
    let front : HasGrown i j h.front = grown_at_once i j h.front h.after kept some h.fits in
    not_by i j ((h.front ++ h.next ∷ []) ++ h.rest) ts full (h.split ∙ sym (append_assoc h.front (h.next ∷ []) h.rest))
    (first_not i j (h.front ++ h.next ∷ []) h.rest full (later_not i j j h.front (h.next ∷ []) front full (grown_not j j h.next full refl h.refused_then)))

-- A TEXT, CHARACTER BY CHARACTER

-- one character more
text_on : (text : List ℕ) (k : ℕ) → k < length text → made_text (take (k + 1) text) ≡ made_text (take k text) ++ made_token (get_or text k 0) ∷ []
text_on text k below = rw (add-one, take-suc text k 0 below) (map-append made_token (take k text) (get_or text k 0 ∷ []))

pub text_none : (i : Stored) (text : List ℕ) → HasGrown i i (made_text (take 0 text))
text_none i text = grown_none i

pub grown_as : (i j : Stored) (t : Token) (code : ℕ) → t ≡ made_token code → HasGrown i j (t ∷ []) → HasGrown i j (made_text (code ∷ []))
grown_as i j t code is h = subst (λ (x : Token). HasGrown i j (x ∷ [])) is h

pub not_as : (i j : Stored) (t : Token) (code : ℕ) (full : Full) → t ≡ made_token code → GrowsNot i j (t ∷ []) full → GrowsNot i j (made_text (code ∷ [])) full
not_as i j t code full is h = subst (λ (x : Token). GrowsNot i j (x ∷ []) full) is h

pub grown_some : (i j : Stored) (ts : List Token) → HasGrown i j ts → IsSome i.making → IsSome j.making
grown_some i j ts h some = subst IsSome (sym (ap (λ (x : Stored). x.making) h.is)) (with_some ts i.making some)

module _ (i j k : Stored) (text : List ℕ) (n : ℕ) (h : HasGrown i j (made_text (take n text))) (below : n < length text) where
  pub text_grown : HasGrown j k (made_text (get_or text n 0 ∷ [])) → HasGrown i k (made_text (take (n + 1) text))
  text_grown g = subst (HasGrown i k) (sym (text_on text n below)) (grown_both i j k (made_text (take n text)) (made_text (get_or text n 0 ∷ [])) h g)

  whole_at : made_text text ≡ (made_text (take n text) ++ made_text (get_or text n 0 ∷ [])) ++ made_text (drop (n + 1) text)
  whole_at =
      ap made_text (sym (take-append-drop (n + 1) text)) ∙ map-append made_token (take (n + 1) text) (drop (n + 1) text)
      ∙ ap (λ (ts : List Token). ts ++ made_text (drop (n + 1) text)) (text_on text n below)

  -- it has no room for one more
  pub text_not : (full : Full) → GrowsNot j k (made_text (get_or text n 0 ∷ [])) full → GrowsNot i k (made_text text) full
  text_not full g = not_by i k ((made_text (take n text) ++ made_text (get_or text n 0 ∷ [])) ++ made_text (drop (n + 1) text)) (made_text text) full whole_at
      (first_not i k (made_text (take n text) ++ made_text (get_or text n 0 ∷ [])) (made_text (drop (n + 1) text)) full
      (later_not i j k (made_text (take n text)) (made_text (get_or text n 0 ∷ [])) h full g))

-- by all of them
pub all_grown : (i j : Stored) (text : List ℕ) (n : ℕ) → HasGrown i j (made_text (take n text)) → length text ≤ n → HasGrown i j (made_text text)
all_grown i j text n h past = subst (λ (cs : List ℕ). HasGrown i j (made_text cs)) (take_all n text past) h

-- THE LIST THAT IS MADE

-- a text with a token is put
made_of : (ts : List Token) → (ts ≡ [] → ⊥) → put_made ts ≡ Put ts ∷ []
made_of [] some = absurd (some refl)
made_of (t ∷ ts) some = refl

-- begun behind the finished lists in front
module _ (sizes : Sizes) (e : Engine) (w : World) (book : Book) (sound : IsSound sizes e book.number book.all_lists)
    (i1 i2 : Stored) (a1 : i1 ≡ record e.input { pending = end_token_lists e.input.pending; lists = i1.lists }) (k1 : KeepsShared e.input i1) where
  store1 : SameStore e.input i1
  store1 = store_settled e.input i1 a1 k1

  done_settled : Did sizes (at sizes e w book e.input) (at sizes e w book i1) w w (ListsEnded ∷ [])
  done_settled = moved sizes e w book e.input i1 ListsEnded refl (ap (λ (p : Pending). record (at sizes e w book e.input) { pending = p }) (settle_of book.number e.input.pending) ∙ ap (at sizes e w book) (sym a1)) tt

  pub begun_cuts : (full : Full) (rest : List Move) → i2 ≡ i1 → refused i1.sizes (memory 1 (stored_words i1) ∷ []) ≡ Some full →
      Cuts sizes (at sizes e w book e.input) (with_input e i2) book w w (ListsEnded ∷ ListBegun ∷ rest) (broken.Full full)
  begun_cuts full rest same r =
      later_cuts sizes _ (at sizes e w book i1) (with_input e i2) book w w w (ListsEnded ∷ []) (ListBegun ∷ rest) (broken.Full full) done_settled
      (full_cuts sizes (at sizes e w book i1) (with_input e i2) book w ListBegun rest full (broken.Full full) refl (words_more sizes (with_input e i1) book 1 (Some full) (sound_in sizes e w book e.input i1 store1 sound) r) (ap (at sizes e w book) (sym same)))

  pub done_begun : refused i1.sizes (memory 1 (stored_words i1) ∷ []) ≡ None → i2 ≡ record i1 { making = Some []; lists = i2.lists } → Did sizes (at sizes e w book e.input) (at sizes e w book i2) w w (ListsEnded ∷ ListBegun ∷ [])
  done_begun f1 a2 = did_join sizes _ _ _ w w w (ListsEnded ∷ []) (ListBegun ∷ []) done_settled
      (moved sizes e w book i1 i2 ListBegun (words_more sizes (with_input e i1) book 1 None (sound_in sizes e w book e.input i1 store1 sound) f1) (ap (at sizes e w book) (sym a2)) tt)

-- and put
module _ (sizes : Sizes) (e : Engine) (w : World) (book : Book) (sound : IsSound sizes e book.number book.all_lists) (ts : List Token) (is : e.input.making ≡ Some ts) (j : Stored) where
  level_at : (o : Option Full) → refused e.input.sizes (level e.input.pending ∷ []) ≡ o → refused sizes (level (pending_of book.number e.input.pending) ∷ []) ≡ o
  level_at o r = ap (λ (d : Demand). refused sizes (d ∷ [])) (level_of book.number e.input.pending) ∙ ap (λ (x : Sizes). refused x (level e.input.pending ∷ [])) (sym sound.sized.input) ∙ r

  -- there is no level for it
  pub unput_cuts : (ts ≡ [] → ⊥) → (full : Full) (more : List Move) → j ≡ record e.input { lists = j.lists } → refused e.input.sizes (level e.input.pending ∷ []) ≡ Some full →
      Cuts sizes (state_of e book) (with_input e j) book w w (put_made ts ++ more) (broken.Full full)
  unput_cuts some full more same r =
      cuts_by sizes _ (with_input e j) book w w (Put ts ∷ more) (put_made ts ++ more) (broken.Full full) (ap (λ (ms : List Move). ms ++ more) (made_of ts some))
      (full_cuts sizes (state_of e book) (with_input e j) book w (Put ts) more full (broken.Full full) refl (level_at (Some full) r) (ap (at sizes e w book) (sym same)))

  -- it is put
  pub made_done : (ts ≡ [] → ⊥) → j ≡ record e.input { pending = put_front (token_put ts) e.input.pending; making = None; lists = j.lists } → refused e.input.sizes (level e.input.pending ∷ []) ≡ None →
      Did sizes (state_of e book) (state_of (with_input e j) book) w w (put_made ts)
  made_done some same r =
      subst (λ (ms : List Move). Did sizes (state_of e book) (state_of (with_input e j) book) w w ms) (sym (made_of ts some))
      (did_one sizes (Put ts) _ _ w w (level_at None r)
      (ap (λ (p : Pending). record (state_of e book) { pending = p; making = None }) (put_front_of book.number (token_put ts) e.input.pending) ∙ ap (at sizes e w book) (sym same)) (quiet_here (Put ts) w tt))

-- ALL TOGETHER

-- a text of these tokens, put in front
pub text_done : (sizes : Sizes) (s s1 s2 s3 : State) (w : World) (ts : List Token) → Did sizes s s1 w w (ListsEnded ∷ ListBegun ∷ []) → Did sizes s1 s2 w w (map ListGrown ts) → Did sizes s2 s3 w w (put_made ts) → Did sizes s s3 w w (put_text ts)
text_done sizes s s1 s2 s3 w ts a b c = did_join sizes s s1 s3 w w w (ListsEnded ∷ ListBegun ∷ []) (map ListGrown ts ++ put_made ts) a (did_join sizes s1 s2 s3 w w w (map ListGrown ts) (put_made ts) b c)

module _ (sizes : Sizes) (s s1 : State) (e' : Engine) (book : Book) (w : World) (ts : List Token) (more : List Move) (b : Broken) (a : Did sizes s s1 w w (ListsEnded ∷ ListBegun ∷ [])) where
  whole_text : put_text ts ++ more ≡ (ListsEnded ∷ ListBegun ∷ []) ++ (map ListGrown ts ++ (put_made ts ++ more))
  whole_text = ap (λ (ms : List Move). ListsEnded ∷ ListBegun ∷ ms) (append_assoc (map ListGrown ts) (put_made ts) more)

  -- the list doesn't grow to its end
  pub text_cuts : Cuts sizes s1 e' book w w (map ListGrown ts ++ (put_made ts ++ more)) b → Cuts sizes s e' book w w (put_text ts ++ more) b
  text_cuts cuts = cuts_by sizes s e' book w w _ _ b whole_text (later_cuts sizes s s1 e' book w w w (ListsEnded ∷ ListBegun ∷ []) (map ListGrown ts ++ (put_made ts ++ more)) b a cuts)

  -- or isn't put
  pub end_cuts : (s2 : State) → Did sizes s1 s2 w w (map ListGrown ts) → Cuts sizes s2 e' book w w (put_made ts ++ more) b → Cuts sizes s e' book w w (put_text ts ++ more) b
  end_cuts s2 g cuts = text_cuts (later_cuts sizes s1 s2 e' book w w w (map ListGrown ts) (put_made ts ++ more) b g cuts)

-- WHAT STAYS

pub in_front : (e : Engine) (j : Stored) (puts : List PutList) (making : Option (List Token)) → j ≡ record e.input { pending = with_puts puts e.input.pending; making = making; lists = j.lists } → SameStore e.input j → IsInFront e (with_input e j)
in_front e j puts making is store = record {
  frames = record { readings = refl; lists = ap (λ (x : Stored). x.builds) is; call = ap (λ (x : Stored). x.call) is };
  others = record { depth = refl; names = refl; after = refl; mag_set = refl; conditionals = refl; last = refl; naming = refl; in_line = refl; reports = refl; flawed = refl; quiet = refl; sizes = refl };
  store = store;
  light = ap (λ (x : Stored). pending_weight x.pending) is;
  page = λ book. ap (λ (x : Stored). page_of (with_input e x) book) is;
}

pub front_join : (e e1 e2 : Engine) → IsInFront e e1 → IsInFront e1 e2 → IsInFront e e2
front_join e e1 e2 a b = record {
  frames = frames_join e e1 e2 a.frames b.frames;
  others = record {
    depth = b.others.depth ∙ a.others.depth;
    names = b.others.names ∙ a.others.names;
    after = b.others.after ∙ a.others.after;
    mag_set = b.others.mag_set ∙ a.others.mag_set;
    conditionals = b.others.conditionals ∙ a.others.conditionals;
    last = b.others.last ∙ a.others.last;
    naming = b.others.naming ∙ a.others.naming;
    in_line = b.others.in_line ∙ a.others.in_line;
    reports = b.others.reports ∙ a.others.reports;
    flawed = b.others.flawed ∙ a.others.flawed;
    quiet = b.others.quiet ∙ a.others.quiet;
    sizes = b.others.sizes ∙ a.others.sizes;
  };
  store = store_join e.input e1.input e2.input a.store b.store;
  light = b.light ∙ a.light;
  page = λ book. b.page book ∙ a.page book;
}

pub begun_front : (e : Engine) (i1 i2 : Stored) (making : Option (List Token)) → i1 ≡ record e.input { pending = end_token_lists e.input.pending; lists = i1.lists } → KeepsShared e.input i1 → i2 ≡ record i1 { making = making; lists = i2.lists } → KeepsShared i1 i2 → IsInFront e (with_input e i2)
begun_front e i1 i2 making a1 k1 a2 k2 =
    in_front e i2 (without_ended e.input.pending.puts) making (a2 ∙ ap (λ (x : Stored). record x { making = making; lists = i2.lists }) a1) (store_join e.input i1 i2 (store_settled e.input i1 a1 k1) (store_making i1 i2 making a2 k2))

pub making_front : (e : Engine) (j : Stored) (making : Option (List Token)) → j ≡ record e.input { making = making; lists = j.lists } → KeepsShared e.input j → IsInFront e (with_input e j)
making_front e j making a k = in_front e j e.input.pending.puts making a (store_making e.input j making a k)

pub begun_none : (e : Engine) (i1 i2 : Stored) → i1 ≡ record e.input { pending = end_token_lists e.input.pending; lists = i1.lists } → KeepsShared e.input i1 → i2 ≡ i1 → IsInFront e (with_input e i2)
begun_none e i1 i2 a k same = subst (λ (x : Stored). IsInFront e (with_input e x)) (sym same) (in_front e i1 (without_ended e.input.pending.puts) e.input.making a (store_settled e.input i1 a k))

pub same_front : (e : Engine) (j : Stored) → j ≡ record e.input { lists = j.lists } → KeepsShared e.input j → IsInFront e (with_input e j)
same_front e j a k = making_front e j e.input.making a k

pub front_sound : (sizes : Sizes) (e e' : Engine) (book : Book) → IsInFront e e' → IsSound sizes e book.number book.all_lists → IsSound sizes e' book.number book.all_lists
front_sound sizes e e' book h sound = sound_still sizes e e' book.number book.all_lists h.others.sizes h.others.depth h.others.conditionals h.others.names h.others.reports h.store sound

-- the list that is made
pub some_made : (o : Option (List Token)) → IsSome o → o ≡ Some (made_list o)
some_made None h = cc
some_made (Some ts) h = refl

pub made_with : (i j : Stored) (ts : List Token) → i.making ≡ Some [] → HasGrown i j ts → j.making ≡ Some ts
made_with i j ts empty h = ap (λ (x : Stored). x.making) h.is ∙ ap (appended_made ts) empty

-- A TEXT IN FRONT, of an engine whose list is begun and grows to it
module _ (e e1 : Engine) (i2 : Stored) (ts : List Token) (begun : e1.input.making ≡ Some []) (front : IsInFront e e1) (same : e1.input.pending ≡ end_token_lists e.input.pending) where
  module _ (grown : HasGrown e1.input i2 ts) where
    pub grown_making : i2.making ≡ Some ts
    grown_making = made_with e1.input i2 ts begun grown

    pub grown_front : IsInFront e (with_input e1 i2)
    grown_front = front_join e e1 (with_input e1 i2) front (making_front e1 i2 (appended_made ts e1.input.making) grown.is grown.keeps)

    pub grown_settled : i2.pending ≡ end_token_lists i2.pending
    grown_settled = settled_still e.input.pending i2.pending (ap (λ (x : Stored). x.pending) grown.is ∙ same)

    module _ (sizes : Sizes) (w : World) (book : Book) (sound : IsSound sizes e book.number book.all_lists) (d : Did sizes (state_of e book) (state_of e1 book) w w (ListsEnded ∷ ListBegun ∷ [])) (e3 : Engine) where
      pub whole_did : (IsSound sizes (with_input e1 i2) book.number book.all_lists → Did sizes (state_of (with_input e1 i2) book) (state_of e3 book) w w (put_made (made_list i2.making))) → Did sizes (state_of e book) (state_of e3 book) w w (put_text ts)
      whole_did h =
          text_done sizes _ _ (state_of (with_input e1 i2) book) _ w ts d (grown.did sizes e1 w book (front_sound sizes e e1 book front sound))
          (subst (λ (us : List Token). Did sizes (state_of (with_input e1 i2) book) (state_of e3 book) w w (put_made us)) (ap made_list grown_making) (h (front_sound sizes e (with_input e1 i2) book grown_front sound)))

      pub whole_cuts : (b : Broken) (more : List Move) → (IsSound sizes (with_input e1 i2) book.number book.all_lists → Cuts sizes (state_of (with_input e1 i2) book) e3 book w w (put_made (made_list i2.making) ++ more) b) → Cuts sizes (state_of e book) e3 book w w (put_text ts ++ more) b
      whole_cuts b more h =
          end_cuts sizes _ _ e3 book w ts more b d _ (grown.did sizes e1 w book (front_sound sizes e e1 book front sound))
          (subst (λ (us : List Token). Cuts sizes (state_of (with_input e1 i2) book) e3 book w w (put_made us ++ more) b) (ap made_list grown_making) (h (front_sound sizes e (with_input e1 i2) book grown_front sound)))

  -- or doesn't
  module _ (full : Full) (stopped : GrowsNot e1.input i2 ts full) where
    pub stopped_front : IsInFront e (with_input e1 i2)
    stopped_front = front_join e e1 (with_input e1 i2) front (making_front e1 i2 i2.making stopped.is stopped.keeps)

    pub stopped_cuts : (sizes : Sizes) (w : World) (book : Book) (more : List Move) → IsSound sizes e book.number book.all_lists → Did sizes (state_of e book) (state_of e1 book) w w (ListsEnded ∷ ListBegun ∷ []) → Cuts sizes (state_of e book) (with_input e1 i2) book w w (put_text ts ++ more) (broken.Full full)
    stopped_cuts sizes w book more sound d = text_cuts sizes _ _ (with_input e1 i2) book w ts more (broken.Full full) d (stopped.cuts sizes e1 w book (put_made ts ++ more) (front_sound sizes e e1 book front sound))
