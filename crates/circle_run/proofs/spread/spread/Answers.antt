use Rattle.circle_run.proofs.Prelude.{arith, ◌≡◌, ℕ, ◌%◌, ◌==◌, All, [], ◌∷◌, ap, sym, subst, Vec, dite, ℕ_discrete, sum_by, sum_by-cons, sum_by-append}
use Rattle.circle_run.proofs.Prelude.{All-nil, All-cons, All-append, Global, Rank, IsHost, one_if}
use Rattle.circle_run.proofs.spread.spread.Goals as goal

pub loop-host-init : goal.loop-host-init
loop-host-init g c = record {
  left = c.requires.ranks;
  own = λ j some below. absurd (omega arith);
  others = subst (All (λ host. IsHost c.args.whole.now.value.items host.items)) (sym c.in_ok-others.ensures.items)
      (All-nil (λ host. IsHost c.args.whole.now.value.items host.items));
  numbers = λ h. (let e = ap (sum_by (λ host. sum_by (λ r. h r.me) host.items)) c.in_ok-others.ensures.items in omega arith);
}

pub loop-host-preserved : goal.loop-host-preserved
loop-host-preserved g c =
    let i = c.loop-host.invariant in
    let P : Vec (Rank g.row.J.Denot g.row.S.Denot g.row.T.Denot) Global → Type 0 = λ host. IsHost c.args.whole.now.value.items host.items in
    let s = c.in_ok-chosen.ensures in
    let chosen = c.in_ok-chosen.chosen in
    record {
      left = s.rest;
      own = λ j some below. dite (ℕ_discrete j c.loop-host.host)
          (λ is. subst (λ (k : ℕ). sum_by (λ r. one_if (r.me % c.args.hosts == k)) c.in_ok-chosen.rest.items ≡ 0) (sym is) s.left)
          (λ ne. (let before = i.own j some (omega arith) in
          let parts = s.numbers (λ m. one_if (m % c.args.hosts == j)) in omega (arith, before, parts)));
      others = subst (All P) (sym c.in_ok-push.ensures.items)
          (All-append P c.loop-host.others.items (chosen ∷ []) i.others (All-cons P chosen [] s.chosen (All-nil P)));
      numbers = λ h. omega (
        arith,
        i.numbers h,
        s.numbers h,
        ap (sum_by (λ host. sum_by (λ r. h r.me) host.items)) c.in_ok-push.ensures.items,
        sum_by-append (λ host. sum_by (λ r. h r.me) host.items) c.loop-host.others.items (chosen ∷ []),
        sum_by-cons (λ host. sum_by (λ r. h r.me) host.items) chosen [],
      );
    }

pub returns-clause-own : goal.returns-clause-own
returns-clause-own g c = λ j some below. c.loop-host.invariant.own j some (let f = c.loop-host-test.false in omega arith)
