use Rattle.real_disk.proofs.Prelude.{ap, sym, subst, IsTrue, list_any, same_tops}
use Rattle.real_disk.proofs.grounds.RealGroundGround.give_back.Goals as goal

pub end-requires : goal.end-requires
end-requires g c =
    subst (λ lent. IsTrue (list_any (λ one. same_tops one c.part.inside.tops) lent)) (sym (ap (λ s. s.lent) c.self.view_is))
    (subst (λ tops. IsTrue (list_any (λ one. same_tops one tops) c.args.self.now.lent)) (sym (ap (λ p. p.1) c.part.view_is)) c.requires.out)
