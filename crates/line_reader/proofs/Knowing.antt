-- What a call made of a file whose rest is told.
use Rattle.std.proofs.Common.{◌≡◌, ◌≢◌, ℕ, ◌+◌, ◌<◌, ◌≤◌, Bool, false, true, List, [], ◌∷◌, ◌++◌, length, refl, ap, sym, ◌∙◌, subst, arith, append_assoc}
use Rattle.std.specs.Prelude.{Option, Some, None, option_map, if◌then◌else◌, MatchBool}
use Rattle.std.proofs.lemmas.List.{append-nil, length-append}
use Rattle.std.proofs.lemmas.Grind.{common_steps}
use Rattle.tex_defs.specs.declared.Full.{Full as FullTable}
use Rattle.tex_defs.specs.declared.Stop.{Stop}
use Rattle.tex_defs.specs.declared.Stop.TheVariants.{Full}
use Rattle.plain_tokens.specs.Lines.{has_feed, before_feed, behind_feed, without_last, first_bytes, trimmed}
use Rattle.world_io.specs.Contents.{FilesTold, SoFar, IsAtEnd}
use Rattle.line_reader.specs.Ahead.{ahead_of, with_ahead}
use Rattle.line_reader.specs.OpenLines.{OpenLines, held, part_for}
use Rattle.line_reader.specs.Reading.{CameIn, sure_bytes, LacksRoom, TakesLine, FindsEnd, Cause, IsRefused, rest_of, TakesFirst, HasNone, KeepsRest}
use Rattle.line_reader.proofs.AheadOf.{is_same, ahead-with}
use Rattle.line_reader.proofs.LineEnds.{without-some}
use Rattle.line_reader.proofs.Parts.{has-append, before-append, has-front, before-front, behind-front, first_with, first_without, before-whole}

-- the rest begins with what is held and what came in
pub record Behind (id : ℕ) (f' : FilesTold) (rest whole : List ℕ) : Type 0 where
  pub more : List ℕ
  pub is : rest ≡ whole ++ more
  pub left : f'.rest id ≡ Some more

behind_so : (id : ℕ) (f' : FilesTold) (rest held got : List ℕ) (first last : Option (List ℕ)) → option_map (λ left. held ++ left) first ≡ Some rest → SoFar first got last → f'.rest id ≡ last → Behind id f' rest (held ++ got)
behind_so id f' rest held got None last e s k = absurd (cc)
behind_so id f' rest held got (Some x) None e s k = absurd s
behind_so id f' rest held got (Some x) (Some y) e s k =
    let r : held ++ x ≡ rest = cc in
    record { more = y; is = sym r ∙ ap (λ (xs : List ℕ). held ++ xs) s ∙ sym (append_assoc held got y); left = k }

pub behind : (id : ℕ) (f : FilesTold) (b : OpenLines) (f' : FilesTold) (rest got : List ℕ) → rest_of id f b ≡ Some rest → CameIn id got f f' → Behind id f' rest (held b id ++ got)
behind id f b f' rest got e came = behind_so id f' rest (held b id) got (f.rest id) (f'.rest id) e came.so_far refl

pub at_end : (rest : Option (List ℕ)) (more : List ℕ) → rest ≡ Some more → IsAtEnd rest → more ≡ []
at_end None more e h = absurd (cc)
at_end (Some x) more e h = let r : x ≡ more = cc in sym r ∙ h

pub rest_is : (id : ℕ) (f' : FilesTold) (b' : OpenLines) (bytes more : List ℕ) → held b' id ≡ bytes → f'.rest id ≡ Some more → rest_of id f' b' ≡ Some (bytes ++ more)
rest_is id f' b' bytes more e k = ap (option_map (λ left. held b' id ++ left)) k ∙ ap (λ (xs : List ℕ). Some (xs ++ more)) e

pub some_more : (xs ys : List ℕ) → xs ≢ [] → xs ++ ys ≢ []
some_more [] ys h e = h refl
some_more (x ∷ xs) ys h e = absurd (cc)

record SameLine (whole rest more : List ℕ) : Type 0 where
  first : first_bytes rest ≡ first_bytes whole
  behind : behind_feed rest ≡ behind_feed whole ++ more

same_feed : (whole more : List ℕ) → has_feed whole ≡ true → SameLine whole (whole ++ more) more
same_feed whole more h = record {
  first = first_with (whole ++ more) (has-front whole more h) ∙ ap (without_last 13) (before-front whole more h) ∙ sym (first_with whole h);
  behind = behind-front whole more h;
}

same_end : (whole more : List ℕ) → more ≡ [] → SameLine whole (whole ++ more) more
same_end whole more e = record {
  first = ap first_bytes (ap (λ (xs : List ℕ). whole ++ xs) e ∙ append-nil whole);
  behind = ap behind_feed (ap (λ (xs : List ℕ). whole ++ xs) e ∙ append-nil whole) ∙ sym (ap (λ (xs : List ℕ). behind_feed whole ++ xs) e ∙ append-nil (behind_feed whole));
}

same_line : (whole more : List ℕ) (feed : Bool) → has_feed whole ≡ feed → (has_feed whole ≡ false → more ≡ []) → SameLine whole (whole ++ more) more
same_line whole more true h e = same_feed whole more h
same_line whole more false h e = same_end whole more (e h)

pub told_takes : (id : ℕ) (f : FilesTold) (b : OpenLines) (f' : FilesTold) (b' : OpenLines) → TakesLine id f b f' b' → (rest : List ℕ) → rest_of id f b ≡ Some rest → TakesFirst id rest b f' b'
told_takes id f b f' b' t rest e =
    let whole : List ℕ = held b id ++ t.got in
    let r : Behind id f' rest whole = behind id f b f' rest t.got e t.came in
    let same : SameLine whole (whole ++ r.more) r.more = same_line whole r.more (has_feed whole) refl (λ h. at_end (f'.rest id) r.more r.left (t.whole h)) in
    let first : first_bytes rest ≡ first_bytes whole = ap first_bytes r.is ∙ same.first in
    let n : length (first_bytes rest) ≡ length (first_bytes whole) = ap length first in
    let now : held b' id ≡ behind_feed whole = ap (λ (x : OpenLines). held x id) t.after ∙ ahead-with id (behind_feed whole) b.ahead in
    record {
      not_empty = λ n. some_more whole r.more t.not_empty (sym r.is ∙ n);
      line = ap (λ (x : OpenLines). x.lines) t.after ∙ ap (λ (xs : List ℕ). trimmed xs ∷ b.lines) (sym first);
      room = omega (arith, t.room, n);
      behind = rest_is id f' b' (behind_feed whole) r.more now r.left ∙ ap Some (sym same.behind ∙ ap behind_feed (sym r.is));
    }

pub told_none : (id : ℕ) (f : FilesTold) (b : OpenLines) (f' : FilesTold) (b' : OpenLines) → FindsEnd id f b f' b' → (rest : List ℕ) → rest_of id f b ≡ Some rest → HasNone id rest b f' b'
told_none id f b f' b' t rest e =
    let r : Behind id f' rest (held b id ++ []) = behind id f b f' rest [] e t.came in
    let none : r.more ≡ [] = at_end (f'.rest id) r.more r.left t.ended in
    let now : held b' id ≡ [] = ap (λ (x : OpenLines). held x id) t.after ∙ ahead-with id [] b.ahead in
    record {
      empty = r.is ∙ ap (λ (xs : List ℕ). (xs ++ []) ++ r.more) t.none ∙ none;
      lines = ap (λ (x : OpenLines). x.lines) t.after;
      behind = rest_is id f' b' [] r.more now r.left ∙ ap Some none;
    }

pub told_line : (id : ℕ) (f : FilesTold) (b : OpenLines) (f' : FilesTold) (b' : OpenLines) (line : Bool) → MatchBool line (TakesLine id f b f' b') (FindsEnd id f b f' b') → (rest : List ℕ) → rest_of id f b ≡ Some rest →
    MatchBool line (TakesFirst id rest b f' b') (HasNone id rest b f' b')
told_line id f b f' b' true t rest e = told_takes id f b f' b' t rest e
told_line id f b f' b' false t rest e = told_none id f b f' b' t rest e

without_fewer : (xs : List ℕ) → length (without_last 13 xs) ≤ length xs
without_fewer [] = omega arith
without_fewer (c ∷ []) = grind (arith, common_steps)
without_fewer (c ∷ e ∷ cs) = let h : length (without_last 13 (e ∷ cs)) ≤ length (e ∷ cs) = without_fewer (e ∷ cs) in omega (arith, h)

-- more bytes make no fewer of a line
longer_without : (whole more : List ℕ) → length (without_last 13 whole) ≤ length (without_last 13 (whole ++ more))
longer_without whole [] = omega (arith, ap (λ (xs : List ℕ). length (without_last 13 xs)) (append-nil whole))
longer_without whole (x ∷ more) =
    let some : 0 < length (x ∷ more) = omega arith in
    let e : length (without_last 13 (whole ++ x ∷ more)) ≡ length whole + length (without_last 13 (x ∷ more)) = ap length (without-some 13 whole (x ∷ more) some) ∙ length-append whole (without_last 13 (x ∷ more)) in
    omega (arith, e, without_fewer whole)

-- of what is at the front of a file
longer_so : (whole more : List ℕ) (feed feed' : Bool) → has_feed whole ≡ feed → has_feed more ≡ feed' → length (without_last 13 (before_feed whole)) ≤ length (first_bytes (whole ++ more))
longer_so whole more true feed' h k = omega (arith, ap length (first_with (whole ++ more) (has-front whole more h) ∙ ap (without_last 13) (before-front whole more h)))
longer_so whole more false true h k =
    let e : first_bytes (whole ++ more) ≡ without_last 13 (whole ++ before_feed more) = first_with (whole ++ more) (has-append whole more h ∙ k) ∙ ap (without_last 13) (before-append whole more h) in
    omega (arith, ap length e, longer_without whole (before_feed more), ap (λ (xs : List ℕ). length (without_last 13 xs)) (before-whole whole h))
longer_so whole more false false h k =
    let e : first_bytes (whole ++ more) ≡ whole ++ more = first_without (whole ++ more) (has-append whole more h ∙ k) in
    omega (arith, ap length e, length-append whole more, without_fewer whole, ap (λ (xs : List ℕ). length (without_last 13 xs)) (before-whole whole h))

lacks_so : (b : OpenLines) (whole more : List ℕ) (ended : Bool) → (ended ≡ true → more ≡ []) → LacksRoom b (sure_bytes ended whole) → LacksRoom b (first_bytes (whole ++ more))
lacks_so b whole more true e h = omega (arith, h, ap (λ (xs : List ℕ). length (first_bytes xs)) (ap (λ (xs : List ℕ). whole ++ xs) (e refl) ∙ append-nil whole))
lacks_so b whole more false e h = omega (arith, h, longer_so whole more (has_feed whole) (has_feed more) refl refl)

full_cause : (stop : Stop) (full : FullTable) (f f' : FilesTold) (b : OpenLines) (ended : Bool) (bytes : List ℕ) → stop ≡ Full full → Cause stop f f' b ended bytes → LacksRoom b (sure_bytes ended bytes)
full_cause stop full f f' b ended bytes e h =
    let k : Cause (Full full) f f' b ended bytes = subst (λ (s : Stop). Cause s f f' b ended bytes) e h in
    k.1

pub told_kept : (id : ℕ) (stop : Stop) (f : FilesTold) (b : OpenLines) (f' : FilesTold) (b' : OpenLines) → IsRefused id stop f b f' b' → (rest : List ℕ) → rest_of id f b ≡ Some rest → KeepsRest id rest stop b f' b'
told_kept id stop f b f' b' t rest e =
    let whole : List ℕ = held b id ++ t.got in
    let r : Behind id f' rest whole = behind id f b f' rest t.got e t.came in
    let part : part_for (Some id) t.front id ≡ t.front = ap (λ (x : Bool). if x then t.front else []) (is_same id id refl) in
    let now : held b' id ≡ whole = ap (λ (x : OpenLines). held x id) t.after ∙ ap (λ (xs : List ℕ). xs ++ ahead_of id (with_ahead id t.bytes b.ahead)) part ∙ ap (λ (xs : List ℕ). t.front ++ xs) (ahead-with id t.bytes b.ahead) ∙ t.kept in
    record {
      lines = ap (λ (x : OpenLines). x.lines) t.after;
      behind = rest_is id f' b' whole r.more now r.left ∙ ap Some (sym r.is);
      full = λ full is. subst (λ (xs : List ℕ). LacksRoom b (first_bytes xs)) (sym r.is) (lacks_so b whole r.more t.ended (λ h. at_end (f'.rest id) r.more r.left (t.at_end h)) (full_cause stop full f f' b t.ended whole is t.cause));
    }
