use Rattle.files_mem.proofs.Prelude.{◌≡◌, [], ap, ◌∙◌, sym, subst, true, IsTrue, get, is_file, content, is_open, IsGround}
use Rattle.files_mem.proofs.CutOut.{cut_all, cut_node, answered_same}
use Rattle.files_mem.proofs.Lending.{cut_ground}
use Rattle.files_mem.proofs.grounds.MemGround.cut.Goals as goal

pub cut_out-requires-clause-part : goal.cut_out-requires-clause-part
cut_out-requires-clause-part c =
    let files = ap (λ m. m.files) c.self.view_is ∙ ap (λ m. m.files) c.fails.ensures.counted ∙ (answered_same _ c.args.self.now).0 in
    let area = ap (λ m. m.area) c.self.view_is ∙ ap (λ m. m.area) c.fails.ensures.counted ∙ (answered_same _ c.args.self.now).1 in
    (cut_all c.self.inside.held c.args.path.now c.self.invariant (subst (λ a. IsTrue (is_open a c.args.path.now)) (sym area) c.requires.open)
    (subst (λ f. is_file (get f c.args.path.now) ≡ true) (sym files) c.requires.empty.is_file)).part

pub cut_out-requires-clause-file : goal.cut_out-requires-clause-file
cut_out-requires-clause-file c =
    let files = ap (λ m. m.files) c.self.view_is ∙ ap (λ m. m.files) c.fails.ensures.counted ∙ (answered_same _ c.args.self.now).0 in
    ap is_file (cut_node c.self.inside.held.files c.args.path.now)
    ∙ subst (λ f. is_file (get f c.args.path.now) ≡ true) (sym files) c.requires.empty.is_file

pub cut_out-requires-clause-none : goal.cut_out-requires-clause-none
cut_out-requires-clause-none c =
    let files = ap (λ m. m.files) c.self.view_is ∙ ap (λ m. m.files) c.fails.ensures.counted ∙ (answered_same _ c.args.self.now).0 in
    ap content (cut_node c.self.inside.held.files c.args.path.now)
    ∙ subst (λ f. content (get f c.args.path.now) ≡ []) (sym files) c.requires.empty.empty

pub invariant_of-self-2 : goal.invariant_of-self-2
invariant_of-self-2 c =
    let files = ap (λ m. m.files) c.self.view_is ∙ ap (λ m. m.files) c.fails.ensures.counted ∙ (answered_same _ c.args.self.now).0 in
    let area = ap (λ m. m.area) c.self.view_is ∙ ap (λ m. m.area) c.fails.ensures.counted ∙ (answered_same _ c.args.self.now).1 in
    subst IsGround (sym c.in_ok-cut_out.ensures.ok)
    (cut_ground c.self.inside.held (record { path = c.args.path.now; cuts = c.args.cuts.now })
    (cut_all c.self.inside.held c.args.path.now c.self.invariant (subst (λ a. IsTrue (is_open a c.args.path.now)) (sym area) c.requires.open)
    (subst (λ f. is_file (get f c.args.path.now) ≡ true) (sym files) c.requires.empty.is_file)))
