use Rattle.mfu_top.proofs.Prelude.{string_bytes, side_of, stream_of, ◌≡◌, refl, map, true, refusal_in, reading, Leaves, is_apart}
use Rattle.mfu_top.proofs.Ended.{printed, stopped, refused, in_any}
use Rattle.mfu_top.proofs.Still.{still}
use Rattle.mfu_top.proofs.running.run.Goals as goal

pub returns-in-Ok-report_of-clause-complete : goal.returns-in-Ok-report_of-clause-complete
returns-in-Ok-report_of-clause-complete g c =
    let before = side_of g.G.Plot c.args.files.now in
    let after = side_of g.G.Plot c.report_of.new.files in
    let outs = g.O.Sink.count in
    let notes = g.E.Sink.count in
    let made = c.in-Ok-report_of in
    printed (map string_bytes c.args.words.now) _ c.args.now before after
    (record { out = outs c.args.out.now; out' = outs c.put.new.out; notes = notes c.args.notes.now; notes' = notes c.put.new.notes })
    made.report c.put.result c.in-Ok.ensures.read c.fine_runs_succeed.ensures c.in-Ok.ensures.within made.ensures.reports c.put.ensures.fine

pub returns-in-Err-report_of-clause-complete : goal.returns-in-Err-report_of-clause-complete
returns-in-Err-report_of-clause-complete g c =
    let before = side_of g.G.Plot c.args.files.now in
    let after = side_of g.G.Plot c.report_of.new.files in
    let outs = g.O.Sink.count in
    let notes = g.E.Sink.count in
    let refused = c.in-Err-report_of in
    stopped (map string_bytes c.args.words.now) _ c.args.now before after
    (record { out = outs c.args.out.now; out' = outs c.args.out.now; notes = notes c.args.notes.now; notes' = notes c.end_stopped.new.notes })
    refused.stop c.end_stopped.result (stream_of g.E.Sink c.args.notes.now)
    (stream_of g.E.Sink c.end_stopped.new.notes)
    c.in-Ok.ensures.read c.fine_runs_succeed.ensures c.in-Ok.ensures.within refused.ensures.stops c.end_stopped.ensures.told

pub returns-in-Err-clause-rest : goal.returns-in-Err-clause-rest
returns-in-Err-clause-rest g c =
    let side = side_of g.G.Plot c.args.files.now in
    in_any (reading (map string_bytes c.args.words.now)) (λ asked. Leaves asked c.args.now side side) (λ asked. still asked c.args.now side)

pub returns-in-Err-clause-apart : goal.returns-in-Err-clause-apart
returns-in-Err-clause-apart g c =
    in_any (reading (map string_bytes c.args.words.now)) (λ asked. is_apart asked ≡ true → c.args.files.now ≡ c.args.files.now) (λ asked apart. refl)

pub returns-in-Err-clause-complete : goal.returns-in-Err-clause-complete
returns-in-Err-clause-complete g c =
    let side = side_of g.G.Plot c.args.files.now in
    let outs = g.O.Sink.count c.args.out.now in
    let notes = g.E.Sink.count in
    refused (map string_bytes c.args.words.now) c.args.now side side
    (record { out = outs; out' = outs; notes = notes c.args.notes.now; notes' = notes c.end_refused.new.notes }) (refusal_in c.in-Err.why) c.end_refused.result
    (stream_of g.E.Sink c.args.notes.now) (stream_of g.E.Sink c.end_refused.new.notes)
    c.in-Err.ensures.refused c.end_refused.ensures.told
