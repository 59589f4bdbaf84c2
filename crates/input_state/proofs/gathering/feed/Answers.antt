use Rattle.token_lists.specs.Ids.{id_of}
use Rattle.input_state.proofs.Called.{more_feeds, brace_feeds, gathered_feeds, mismatch_feeds, ended_feeds, cut_feeds}
use Rattle.input_state.proofs.gathering.feed.Goals as goal

pub returns-in-Ok-More-clause-ok : goal.returns-in-Ok-More-clause-ok
returns-in-Ok-More-clause-ok c =
    let h = c.in-Gathers in
    more_feeds c.args.lists.now c.feed.new.lists c.args.table.now c.args.call.now (id_of c.in-Some.list.now) h.name h.scan c.feed.new.self c.args.token c.requires.sound h.is c.in-Some.ensures.list
    c.in-Ok-More.field-0 c.in-Ok-More.field-0-is c.in-Ok-More.ensures.answers

pub returns-in-Ok-ExtraBrace-clause-ok : goal.returns-in-Ok-ExtraBrace-clause-ok
returns-in-Ok-ExtraBrace-clause-ok c =
    let h = c.in-Gathers in
    brace_feeds c.args.lists.now c.feed.new.lists c.args.table.now c.args.call.now (id_of c.in-Some.list.now) h.name h.scan c.feed.new.self c.args.token c.requires.sound h.is c.in-Some.ensures.list
    c.in-Ok-ExtraBrace.field-0 c.in-Ok-ExtraBrace.field-0-is c.in-Ok-ExtraBrace.ensures.answers

pub returns-in-Ok-Gathered-clause-ok : goal.returns-in-Ok-Gathered-clause-ok
returns-in-Ok-Gathered-clause-ok c =
    let h = c.in-Gathers in
    gathered_feeds c.args.lists.now c.feed.new.lists c.args.table.now c.args.call.now (id_of c.in-Some.list.now) h.name h.scan c.feed.new.self c.args.token c.requires.sound h.is c.in-Some.ensures.list
    c.gathered.new.call c.gathered.ensures c.in-Ok-Gathered.field-0 c.in-Ok-Gathered.field-0-is c.in-Ok-Gathered.ensures.answers

pub returns-in-Ok-Mismatch-clause-ok : goal.returns-in-Ok-Mismatch-clause-ok
returns-in-Ok-Mismatch-clause-ok c =
    let h = c.in-Gathers in
    mismatch_feeds c.args.lists.now c.feed.new.lists c.args.table.now c.args.call.now (id_of c.in-Some.list.now) h.name h.scan c.feed.new.self c.args.token c.requires.sound h.is c.in-Some.ensures.list
    c.stop.new.call c.stop.ensures c.in-Ok-Mismatch.field-0 c.in-Ok-Mismatch.field-0-is c.in-Ok-Mismatch.ensures.answers

pub returns-in-Ok-ParEnded-clause-ok : goal.returns-in-Ok-ParEnded-clause-ok
returns-in-Ok-ParEnded-clause-ok c =
    let h = c.in-Gathers in
    ended_feeds c.args.lists.now c.feed.new.lists c.args.table.now c.args.call.now (id_of c.in-Some.list.now) h.name h.scan c.feed.new.self c.args.token c.requires.sound h.is c.in-Some.ensures.list
    c.stop-in-Ok-ParEnded.new.call c.in-Ok-ParEnded.silent c.stop-in-Ok-ParEnded.ensures c.in-Ok-ParEnded.field-0 c.in-Ok-ParEnded.field-0-is c.in-Ok-ParEnded.ensures.answers

pub returns-in-Err-clause-err : goal.returns-in-Err-clause-err
returns-in-Err-clause-err c =
    let h = c.in-Gathers in
    cut_feeds c.args.lists.now c.feed.new.lists c.args.table.now c.args.call.now (id_of c.in-Some.list.now) h.name h.scan c.feed.new.self c.args.token c.requires.sound h.is c.in-Some.ensures.list
    c.stop-in-Err.new.call c.stop-in-Err.ensures c.in-Err.ensures.cut_short
