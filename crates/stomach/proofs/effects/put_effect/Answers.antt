use Rattle.std.proofs.Common.{◌++◌, rules, FitsSigned, ℤ, w32, subst, sym}
use Rattle.std.proofs.lemmas.Int.{to_z-of_z}
use Rattle.plain_tokens.specs.Numerals.{whole_number, roman}
use Rattle.plain_machine.specs.Plan.{put_characters}
use Rattle.plain_machine.specs.Does.{Did}
use Rattle.engine_state.specs.Rules.{Cuts}
use Rattle.engine_state.specs.Stands.{state_of}
use Rattle.engine_state.proofs.Joining.{on_ok, err_to}
use Rattle.stomach.proofs.effects.put_effect.Goals as goal

pub returns-in-PutBack-clause-did : goal.returns-in-PutBack-clause-did
returns-in-PutBack-clause-did c = rw c.in-PutBack.is (on_ok c.put_one.result (λ h small sizes w book counts. h sizes w book counts c.requires.idle) c.put_one.ensures.did)

pub returns-in-PutBack-clause-err : goal.returns-in-PutBack-clause-err
returns-in-PutBack-clause-err c = rw c.in-PutBack.is (err_to c.put_one.result (λ b h sizes w book more counts. h sizes w book more counts c.requires.idle) c.put_one.ensures.err)

pub returns-in-PutMarked-clause-did : goal.returns-in-PutMarked-clause-did
returns-in-PutMarked-clause-did c =
    rw (c.in-PutMarked.is, sym c.marked.ensures) (on_ok c.put_one-in-PutMarked.result (λ h small sizes w book counts. h sizes w book counts c.requires.idle) c.put_one-in-PutMarked.ensures.did)

pub returns-in-PutMarked-clause-err : goal.returns-in-PutMarked-clause-err
returns-in-PutMarked-clause-err c =
    rw (c.in-PutMarked.is, sym c.marked.ensures) (err_to c.put_one-in-PutMarked.result (λ b h sizes w book more counts. h sizes w book more counts c.requires.idle) c.put_one-in-PutMarked.ensures.err)

pub returns-in-MakeNumber-clause-did : goal.returns-in-MakeNumber-clause-did
returns-in-MakeNumber-clause-did c = let e = c.args.engine.now in let e1 = c.put_characters.new.self in let n = c.in-MakeNumber.n in
    let fits : FitsSigned w32 n = search rules in
    rw c.in-MakeNumber.is
    (on_ok c.put_characters.result (λ h small sizes w book counts.
    subst (λ (x : ℤ). Did sizes (state_of e book) (state_of e1 book) w w (put_characters (whole_number x))) (to_z-of_z w32 n fits) (h sizes w book counts c.requires.idle)) c.put_characters.ensures.did)

pub returns-in-MakeNumber-clause-err : goal.returns-in-MakeNumber-clause-err
returns-in-MakeNumber-clause-err c = let e = c.args.engine.now in let e1 = c.put_characters.new.self in let n = c.in-MakeNumber.n in
    let fits : FitsSigned w32 n = search rules in
    rw c.in-MakeNumber.is
    (err_to c.put_characters.result (λ b h sizes w book more counts.
    subst (λ (x : ℤ). Cuts sizes (state_of e book) e1 book w w (put_characters (whole_number x) ++ more) b) (to_z-of_z w32 n fits) (h sizes w book more counts c.requires.idle)) c.put_characters.ensures.err)

pub returns-in-MakeRoman-clause-did : goal.returns-in-MakeRoman-clause-did
returns-in-MakeRoman-clause-did c = let e = c.args.engine.now in let e1 = c.put_characters-in-MakeRoman.new.self in let n = c.in-MakeRoman.n in
    let fits : FitsSigned w32 n = search rules in
    rw c.in-MakeRoman.is
    (on_ok c.put_characters-in-MakeRoman.result (λ h small sizes w book counts.
    subst (λ (x : ℤ). Did sizes (state_of e book) (state_of e1 book) w w (put_characters (roman x))) (to_z-of_z w32 n fits) (h sizes w book counts c.requires.idle)) c.put_characters-in-MakeRoman.ensures.did)

pub returns-in-MakeRoman-clause-err : goal.returns-in-MakeRoman-clause-err
returns-in-MakeRoman-clause-err c = let e = c.args.engine.now in let e1 = c.put_characters-in-MakeRoman.new.self in let n = c.in-MakeRoman.n in
    let fits : FitsSigned w32 n = search rules in
    rw c.in-MakeRoman.is
    (err_to c.put_characters-in-MakeRoman.result (λ b h sizes w book more counts.
    subst (λ (x : ℤ). Cuts sizes (state_of e book) e1 book w w (put_characters (roman x) ++ more) b) (to_z-of_z w32 n fits) (h sizes w book more counts c.requires.idle)) c.put_characters-in-MakeRoman.ensures.err)

pub returns-in-MakeString-clause-did : goal.returns-in-MakeString-clause-did
returns-in-MakeString-clause-did c = rw c.in-MakeString.is (on_ok c.put_characters-in-MakeString.result (λ h small sizes w book counts. h sizes w book counts c.requires.idle) c.put_characters-in-MakeString.ensures.did)

pub returns-in-MakeString-clause-err : goal.returns-in-MakeString-clause-err
returns-in-MakeString-clause-err c = rw c.in-MakeString.is (err_to c.put_characters-in-MakeString.result (λ b h sizes w book more counts. h sizes w book more counts c.requires.idle) c.put_characters-in-MakeString.ensures.err)

pub returns-in-MakeMeaning-clause-did : goal.returns-in-MakeMeaning-clause-did
returns-in-MakeMeaning-clause-did c = rw c.in-MakeMeaning.is (on_ok c.put_characters-in-MakeMeaning.result (λ h small sizes w book counts. h sizes w book counts c.requires.idle) c.put_characters-in-MakeMeaning.ensures.did)

pub returns-in-MakeMeaning-clause-err : goal.returns-in-MakeMeaning-clause-err
returns-in-MakeMeaning-clause-err c = rw c.in-MakeMeaning.is (err_to c.put_characters-in-MakeMeaning.result (λ b h sizes w book more counts. h sizes w book more counts c.requires.idle) c.put_characters-in-MakeMeaning.ensures.err)

pub returns-in-MakeValue-clause-did : goal.returns-in-MakeValue-clause-did
returns-in-MakeValue-clause-did c = rw c.in-MakeValue.is (on_ok c.put_value.result (λ h small sizes w book counts. h small sizes w book counts) c.put_value.ensures.did)

pub returns-in-MakeValue-clause-err : goal.returns-in-MakeValue-clause-err
returns-in-MakeValue-clause-err c = rw c.in-MakeValue.is (err_to c.put_value.result (λ b h sizes w book more counts. h sizes w book more counts) c.put_value.ensures.err)
