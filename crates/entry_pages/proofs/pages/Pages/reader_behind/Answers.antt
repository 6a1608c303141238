use Rattle.entry_pages.proofs.Prelude.{◌≡◌, ◌-◌, ◌/◌, ◌∙◌, ℕ, arith, rules, ap, sym, length, List, [], slice_get, Entry, Head, unpacked}
use Rattle.entry_pages.proofs.Inverse.{kept_many}
use Rattle.entry_pages.proofs.Passed.{before_pair}
use Rattle.entry_pages.proofs.Paged.{has_page, before_entry}
use Rattle.entry_pages.proofs.pages.Pages.reader_behind.Goals as goal

pub leads_at-heads-requires : goal.leads_at-heads-requires
leads_at-heads-requires c = omega (arith, kept_many c.self.invariant, ap length c.self.view_is, c.requires)

pub index-requires : goal.index-requires
index-requires c =
    let has = has_page (c.args.k / 256) c.self.invariant (omega (arith, ap length c.self.view_is, c.requires)) in
    omega (arith, has, c.self.inside.starts.ok.0)

pub make-requires : goal.make-requires
make-requires c = before_pair c.leads_at-heads.result c.deref.result.now c.leads_at-heads.ensures c.deref.ensures.value
    (before_entry (c.args.k / 256) c.index.result.now c.self.invariant (omega (arith, ap length c.self.view_is, c.requires)) (search rules))

pub loop-init : goal.loop-init
loop-init c =
    let leads = c.leads_at-heads.ensures in
    record {
      of_list = c.in_ok-reader.ensures.list ∙ ap (λ (l : List Head × ℕ). unpacked [] l.0 c.deref.result.now) leads
          ∙ ap (unpacked [] c.self.inside.heads) c.deref.ensures.value ∙ c.self.view_is;
      passed = omega (arith, c.in_ok-reader.ensures.passed, ap (λ (l : List Head × ℕ). l.1) leads);
      held = λ lt. absurd (omega (arith, lt));
    }

pub pass-requires : goal.pass-requires
pass-requires c = omega (arith, c.loop.invariant.passed, ap length c.loop.invariant.of_list, c.requires, c.loop-test.true)

pub loop-preserved : goal.loop-preserved
loop-preserved c =
    let before = c.loop.invariant in
    let passed = c.in_ok-pass.ensures.passed in
    let same : c.loop.reader.1 ≡ c.pass.new.self.1 - 1 = omega (arith, passed) in
    record {
      of_list = c.pass.ensures.list ∙ before.of_list;
      passed = omega (arith, passed, before.passed);
      held = λ lt. ap (slice_get c.args.self.now) (sym same) ∙ ap (λ (l : List Entry). slice_get l c.loop.reader.1) (sym before.of_list)
          ∙ c.in_ok-pass.ensures.entry;
    }

pub returns-clause-list : goal.returns-clause-list
returns-clause-list c = c.loop.invariant.of_list

pub returns-clause-passed : goal.returns-clause-passed
returns-clause-passed c = omega (arith, c.loop.invariant.passed, c.loop-test.false, c.loop.auto.counter-end)

pub returns-clause-last : goal.returns-clause-last
returns-clause-last c =
    let at : c.loop.reader.1 - 1 ≡ c.args.k = omega (arith, c.loop.invariant.passed, c.loop-test.false, c.loop.auto.counter-end) in
    ap (slice_get c.args.self.now) (sym at) ∙ c.loop.invariant.held (omega (arith, c.loop-test.false))
