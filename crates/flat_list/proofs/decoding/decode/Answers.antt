use Rattle.flat_list.proofs.Prelude.{rules, arith, ◌≡◌, ◌≤◌, ◌+◌, length, refl, sym, subst, List, None, IfOk-weaker, MatchResult-weaker, Entry, entry_lines}
use Rattle.flat_list.proofs.Prelude.{Spells, max_entries, IsCause, IsRefused, lines_of, cut, entry_at, NoneFollows, IsLast}
use Rattle.flat_list.proofs.Damage.{Undoes, Stands, line_len}
use Rattle.flat_list.proofs.Decoded.{Reads, starts, bad_torn, bad_text, at_end, past_end, too_long}
use Rattle.flat_list.proofs.Grown.{Grown, none_holds, grown}
use Rattle.flat_list.proofs.decoding.decode.Goals as goal
use Rattle.flat_list.proofs.decoding.decode.Goals.{In-Some-cut_line, In-Some-added}

-- a line is cut off what is left
reads_line : (c : In-Some-cut_line) →
    Reads c.in-Some.version c.args.bytes.now c.loop-text.rest.now c.in-Some-cut_line.text.now c.in-Some-cut_line.behind.now c.loop-text.list
reads_line c = record { stands = c.loop-text.invariant.stands; few = c.loop-text.invariant.few; first = sym c.in-Some-cut_line.ensures }

-- the line adds an entry
grown_by : (c : In-Some-added) → Grown c.in-Some.version c.args.bytes.now c.loop-text.rest.now c.loop-text.list
    c.add_entry.new.list c.add_entry.new.last c.in-Some-added.next.rest.now c.in-Some-added.next.lines
grown_by c = grown c.in-Some.version c.args.bytes.now c.loop-text.rest.now c.in-Some-cut_line.text.now c.in-Some-cut_line.behind.now c.loop-text.list
    c.add_entry.new.list c.add_entry.new.last c.in_ok-added.added c.in-Some-added.next (λ n. n.rest.now) (λ n. n.lines)
    (record { paths = c.reading_undoes_writing.ensures; links = c.link_reading_undoes_writing.ensures })
    (record { stands = c.loop-text.invariant.stands; few = c.loop-text.invariant.few; first = sym c.in-Some-cut_line.ensures })
    c.in-Some-added.is c.in_ok-added.ensures.yes c.in_ok-added.ensures.last c.in_ok-added.ensures.rest c.in_ok-added.ensures.lines

pub loop-text-init : goal.loop-text-init
loop-text-init c =
    let bytes = c.args.bytes.now in
    let rest = c.in-Some.rest.now in
    let none = sym c.make-list.ensures in
    record {
      stands = subst (λ (l : List Entry). Stands c.in-Some.version bytes l (lines_of rest)) none (starts c.in-Some.version bytes rest c.in-Some.ensures.some);
      few = subst (λ (l : List Entry). length l ≤ max_entries) none (omega arith);
      last = subst (IsLast None) none refl;
      number = subst (λ (l : List Entry). 2 ≡ length (entry_lines l) + 2) none refl;
      settled = tt;
    }

pub ended-requires : goal.ended-requires
ended-requires c =
    let before = c.loop-text.invariant in
    omega (arith, before.number, before.few, line_len c.loop-text.list)

pub returns-then-is_end-clause-ok : goal.returns-then-is_end-clause-ok
returns-then-is_end-clause-ok c =
    let reads = reads_line (goal.at.returns-then-is_end-clause-ok c).In-Some-cut_line in
    let end = c.is_end.ensures.yes c.if-is_end.true in
    IfOk-weaker c.ended.result _ (Spells c.args.bytes.now) (λ l h. subst (Spells c.args.bytes.now) (sym h.0) (at_end reads end h.1)) c.ended.ensures.ok

pub returns-then-is_end-clause-refused : goal.returns-then-is_end-clause-refused
returns-then-is_end-clause-refused c =
    let reads = reads_line (goal.at.returns-then-is_end-clause-refused c).In-Some-cut_line in
    let end = c.is_end.ensures.yes c.if-is_end.true in
    let undoes : Undoes = record { paths = c.reading_undoes_writing.ensures; links = c.link_reading_undoes_writing.ensures } in
    let cause = IsCause c.args.bytes.now in
    let here : length (entry_lines c.loop-text.list) + 3 ≡ c.loop-text.line + 1 = omega (arith, c.loop-text.invariant.number) in
    MatchResult-weaker c.ended.result c.ended.ensures.damaged (λ l h. h)
    (λ e h. subst cause (sym h.0) (subst (IsRefused c.args.bytes.now) here (past_end undoes reads end h.1)))

pub returns-in_default-added-clause-refused : goal.returns-in_default-added-clause-refused
returns-in_default-added-clause-refused c =
    let bytes = c.args.bytes.now in
    let text = c.in-Some-cut_line.text.now in
    let list = c.loop-text.list in
    let before = c.loop-text.invariant in
    let undoes : Undoes = record { paths = c.reading_undoes_writing.ensures; links = c.link_reading_undoes_writing.ensures } in
    let reads = reads_line (goal.at.returns-in_default-added-clause-refused c).In-Some-cut_line in
    let none : c.in_ok-added.added ≡ None = first_of (cc, search rules) in
    let follows = none_holds c.in_ok-added.added (NoneFollows (entry_at c.in-Some.version text) list) none c.in_ok-added.ensures.no in
    let refused = bad_text undoes reads c.loop-text.last before.last before.settled (c.is_end.ensures.no c.if-is_end.false) follows in
    subst (IsRefused bytes) (sym before.number) refused

pub returns-then-len-gt-MAX_ENTRIES-clause-refused : goal.returns-then-len-gt-MAX_ENTRIES-clause-refused
returns-then-len-gt-MAX_ENTRIES-clause-refused c =
    let t = grown_by (goal.at.returns-then-len-gt-MAX_ENTRIES-clause-refused c).In-Some-added in
    too_long c.in-Some.version c.args.bytes.now c.add_entry.new.list (lines_of c.in-Some-added.next.rest.now) t.stands
    (omega (arith, t.more, t.few, c.len.ensures))

pub overflow_add-line : goal.overflow_add-line
overflow_add-line c =
    let t = grown_by (goal.at.overflow_add-line c).In-Some-added in
    omega (arith, c.loop-text.invariant.number, t.few, line_len c.loop-text.list, t.small)

pub loop-text-smaller : goal.loop-text-smaller
loop-text-smaller c =
    let t = grown_by (goal.at.loop-text-smaller c).In-Some-added in
    t.less

pub loop-text-preserved : goal.loop-text-preserved
loop-text-preserved c =
    let t = grown_by (goal.at.loop-text-preserved c).In-Some-added in
    record {
      stands = t.stands;
      few = omega (arith, c.len.ensures);
      last = t.last;
      number = omega (arith, c.loop-text.invariant.number, t.number);
      settled = t.settled;
    }

pub returns-clause-refused : goal.returns-clause-refused
returns-clause-refused c =
    let torn : cut 10 c.loop-text.rest.now ≡ None = first_of (cc, search rules) in
    let before = c.loop-text.invariant in
    let undoes : Undoes = record { paths = c.reading_undoes_writing.ensures; links = c.link_reading_undoes_writing.ensures } in
    let refused = bad_torn c.in-Some.version c.args.bytes.now c.loop-text.rest.now c.loop-text.list undoes before.stands torn before.few in
    subst (IsRefused c.args.bytes.now) (sym before.number) refused
