use Rattle.files_mem.proofs.Prelude.{sym, ap, subst, CanLease, HaveParents, IsPart, IsGround}
use Rattle.files_mem.proofs.Lending.{lease_ground}
use Rattle.files_mem.proofs.grounds.MemGroundGround.lease.Goals as goal

pub make-requires : goal.make-requires
make-requires c =
    let can = subst (λ a. CanLease a c.args.tops.now) (sym (ap (λ m. m.area) c.self.view_is)) c.requires.tops in
    let dirs = subst (HaveParents c.args.tops.now) (sym (ap (λ m. m.files) c.self.view_is)) c.requires.parents in
    let both = lease_ground c.self.inside.held c.args.tops.now c.self.invariant can dirs c.in_ok-store.ensures.valid in
    subst (λ t. IsPart t c.in_ok-store.store) (sym c.in_ok-store.ensures.tops) (subst (IsPart c.args.tops.now) (sym c.in_ok-store.ensures.part) both.1)

pub invariant_of-self-2 : goal.invariant_of-self-2
invariant_of-self-2 c =
    let can = subst (λ a. CanLease a c.args.tops.now) (sym (ap (λ m. m.area) c.self.view_is)) c.requires.tops in
    let dirs = subst (HaveParents c.args.tops.now) (sym (ap (λ m. m.files) c.self.view_is)) c.requires.parents in
    subst IsGround (sym c.in_ok-store.ensures.rest) (lease_ground c.self.inside.held c.args.tops.now c.self.invariant can dirs c.in_ok-store.ensures.valid).0
