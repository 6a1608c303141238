use Rattle.tree_dup.proofs.Prelude.{rules, arith, ◌≡◌, ◌+◌, ◌<◌, false, length, get_or, set, ap, ◌∙◌, get_or_default, get_or-set_same, File, Sought, is_alike}
use Rattle.tree_dup.proofs.Prelude.{is_other}
use Rattle.tree_dup.proofs.Gone.{went_nowhere, went_set}
use Rattle.tree_dup.proofs.Parted.{if_any}
use Rattle.tree_dup.proofs.Stood.{inside_still, lead_told, lead_filled, first_set, length_set}
use Rattle.tree_dup.proofs.comparing.next_lead.Given as given
use Rattle.tree_dup.proofs.comparing.next_lead.Goals as goal
use Rattle.tree_dup.proofs.comparing.next_lead.Goals.{After-lead}

pub lead-requires-clause-inside : goal.lead-requires-clause-inside
lead-requires-clause-inside g c =
    inside_still (c.args.at + c.args.room) c.args.files.now c.loop-k.files c.loop-k.invariant.sought.went.files c.requires.inside c.loop-k.k
    c.index-files-k.result (search rules)

pub loop-k-init : goal.loop-k-init
loop-k-init g c = record {
  sought = record {
    went = went_nowhere g.R.Tree.tree g.R.Tree.count g.R.Tree.gives c.args.reader.now c.args.files.now;
    told = if_any (g.R.Tree.tree c.args.reader.now) _ (λ tree there bytes h. h);
    front = λ d l o. o;
  };
  before = λ d l m. absurd (omega arith);
}

inside : (g : given.Over) (c : After-lead g) → c.loop-k.k < length c.loop-k.files
inside g c = search rules

-- one more file was asked to lead
one_sought : (g : given.Over) (c : After-lead g) → Sought g.R.Tree.tree g.R.Tree.count g.R.Tree.gives c.args.at c.args.reader.now c.lead.new.reader
    c.args.files.now (set c.loop-k.files c.loop-k.k c.lead.new.file)
one_sought g c =
    let so_far = c.loop-k.invariant.sought in
    let files = c.loop-k.files in
    let k = c.loop-k.k in
    let f = c.lead.new.file in
    let d = c.index-files-k.result in
    record {
      went = went_set g.R.Tree.tree g.R.Tree.count g.R.Tree.gives
          c.args.reader.now c.loop-k.reader c.lead.new.reader c.args.files.now files k f d (inside g c) so_far.went c.lead.ensures.moved;
      told = lead_told (g.R.Tree.tree c.args.reader.now) (g.R.Tree.tree c.loop-k.reader) c.args.at c.args.files.now files k f d so_far.went.same (inside g c)
          so_far.went.files so_far.told c.lead.ensures.told;
      front = λ x l o. first_set files k f (inside g c) (λ (y : File). is_other y ≡ false) x
          (λ z. c.lead.ensures.others (ap is_other (get_or_default files k d x (inside g c) ∙ ap (λ j. get_or files j x) z) ∙ so_far.front x l o))
          (λ later. so_far.front x l o);
    }

-- the first file does not lead, if it does not now
none_before : (g : given.Over) (c : After-lead g) (x : File) → (c.loop-k.k ≡ 0 → is_alike c.lead.new.file ≡ false) →
    0 < length (set c.loop-k.files c.loop-k.k c.lead.new.file) → is_alike (get_or (set c.loop-k.files c.loop-k.k c.lead.new.file) 0 x) ≡ false
none_before g c x now some =
    let long = length_set c.loop-k.files c.loop-k.k c.lead.new.file (inside g c) in
    first_set c.loop-k.files c.loop-k.k c.lead.new.file (inside g c) (λ (y : File). is_alike y ≡ false) x now
    (λ later. c.loop-k.invariant.before x later (omega (arith, long, some)))

pub loop-k-preserved : goal.loop-k-preserved
loop-k-preserved g c =
    let at = (goal.at.loop-k-preserved g c).After-lead in
    record { sought = one_sought g at; before = λ x l m. none_before g at x (λ z. c.lead.ensures.leads ∙ c.if-lead.false) m }

pub returns-then-lead : goal.returns-then-lead
returns-then-lead g c =
    let at = (goal.at.returns-then-lead g c).After-lead in
    let so_far = c.loop-k.invariant.sought in
    record {
      sought = one_sought g at;
      filled = λ l x. lead_filled (g.R.Tree.tree c.args.reader.now) (g.R.Tree.tree c.loop-k.reader) c.args.at (c.args.at + c.args.room) c.lead.new.into
          c.args.files.now c.loop-k.files c.loop-k.k c.lead.new.file c.index-files-k.result x so_far.went.same (inside g at) so_far.told
          (c.lead.ensures.filled c.if-lead.true);
      leads = λ l x. ap is_alike (get_or-set_same c.loop-k.files c.loop-k.k c.lead.new.file x (inside g at)) ∙ c.lead.ensures.leads ∙ c.if-lead.true;
      before = λ x l m. none_before g at x (λ z. absurd (omega arith)) m;
    }

pub returns : goal.returns
returns g c =
    let i = c.loop-k.invariant in
    record {
      sought = i.sought;
      filled = λ l. absurd (omega arith);
      leads = λ l. absurd (omega arith);
      before = λ d l m. i.before d (omega arith) (omega arith);
    }
