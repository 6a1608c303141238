use Rattle.real_disk.proofs.Prelude.{◌≡◌, ap, sym, subst, true, is_some, cuts_at}
use Rattle.real_disk.proofs.Spanning.{is_out}
use Rattle.real_disk.proofs.grounds.RealGroundWide.give_back_spans.Goals as goal

pub end-requires : goal.end-requires
end-requires g c =
    let path = c.args.path.now in
    subst (λ cut. is_some (cuts_at path cut) ≡ true) (sym (ap (λ s. s.cut) c.self.view_is))
    (is_out path (cuts_at path c.args.self.now.cut) _ c.requires)
