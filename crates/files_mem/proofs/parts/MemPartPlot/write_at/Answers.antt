use Rattle.files_mem.proofs.Prelude.{rules, ◌≡◌, ◌≤◌, None, Some, sym, ap, ◌∙◌, true, false, length, subst, Result, Ok, Err, OnOk, get, is_file, content}
use Rattle.files_mem.proofs.Prelude.{write_refusal, written, is_planned}
use Rattle.files_mem.specs.declared.plans.Call.TheVariants as call
use Rattle.files_mem.proofs.Treed.{can_write}
use Rattle.files_mem.proofs.Acting.{acts_refused, answers_refused, write_named, never_failed}
use Rattle.files_mem.proofs.Parted.{write_part}
use Rattle.files_mem.proofs.parts.MemPartPlot.write_at.Goals as goal

pub returns-in-Some-clause-acts : goal.returns-in-Some-clause-acts
returns-in-Some-clause-acts c =
    let planned : is_planned call.Write c.args.path.now c.args.self.now.planned ≡ false = sym c.fails.ensures.planned ∙ c.if-fails.false in
    let same : c.fails.new.self ≡ c.args.self.now = search rules in
    let is : write_refusal (get c.args.self.now.files c.args.path.now) ≡ Some c.in-Some.refused = search rules in
    acts_refused call.Write c.args.path.now (write_refusal (get c.args.self.now.files c.args.path.now))
    (written c.args.self.now.files c.args.path.now c.args.at c.args.bytes.now) c.args.self.now c.fails.new.self c.in-Some.refused
    (write_named _ _ is).0 planned is same

pub returns-in-Some-clause-told : goal.returns-in-Some-clause-told
returns-in-Some-clause-told c =
    let planned : is_planned call.Write c.args.path.now c.args.self.now.planned ≡ false = sym c.fails.ensures.planned ∙ c.if-fails.false in
    let same : c.fails.new.self ≡ c.args.self.now = search rules in
    let is : write_refusal (get c.args.self.now.files c.args.path.now) ≡ Some c.in-Some.refused = search rules in
    answers_refused c.args.path.now (write_refusal (get c.args.self.now.files c.args.path.now)) c.args.self.now.files
    (written c.args.self.now.files c.args.path.now c.args.at c.args.bytes.now) (Some c.fails.new.self.files) c.in-Some.refused
    (write_named _ _ is).0 is (ap (λ m. Some m.files) same)

pub returns-in-Some-clause-named : goal.returns-in-Some-clause-named
returns-in-Some-clause-named c =
    let is : write_refusal (get c.args.self.now.files c.args.path.now) ≡ Some c.in-Some.refused = search rules in
    (write_named _ _ is).1

pub returns-in-Some-clause-cause : goal.returns-in-Some-clause-cause
returns-in-Some-clause-cause c =
    let is : write_refusal (get c.args.self.now.files c.args.path.now) ≡ Some c.in-Some.refused = search rules in
    λ f. absurd (never_failed _ (write_named _ _ is).0 f)

pub write-requires-clause-place : goal.write-requires-clause-place
write-requires-clause-place c =
    let same : c.fails.new.self ≡ c.args.self.now = search rules in
    let files = ap (λ m. m.files) (c.self.view_is ∙ same) in
    let free : write_refusal (get c.self.inside.store c.args.path.now) ≡ None = search rules in
    let there = can_write _ free in
    subst (λ f. c.args.at ≤ length (content (get f c.args.path.now))) (sym files)
    (c.requires.place (subst (λ f. is_file (get f c.args.path.now) ≡ true) files there))

pub invariant_of-self-2 : goal.invariant_of-self-2
invariant_of-self-2 c =
    let free : write_refusal (get c.self.inside.store c.args.path.now) ≡ None = search rules in
    write_part c.write.result _ _ _ _ c.args.at c.args.bytes.now c.self.invariant (free_ok c.write.result free) c.write.ensures.ok c.write.ensures.err
  where
    free_ok : {B P : Type 0} (r : Result (Unit {0}) B) → P → OnOk r P
    free_ok (Ok x) p = p
    free_ok (Err x) p = tt
