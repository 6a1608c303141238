use Rattle.files_mem.proofs.Prelude.{◌≡◌, None, sym, ap, ◌∙◌, false, subst, Ok, IsTrue, get, remove, is_open, remove_file_refusal, answered, is_planned}
use Rattle.files_mem.proofs.Prelude.{Lending}
use Rattle.files_mem.specs.declared.plans.Call.TheVariants as call
use Rattle.files_mem.proofs.Lending.{remove_file_ground}
use Rattle.files_mem.proofs.grounds.MemGroundPlot.remove_file.Goals as goal

pub invariant_of-self-2 : goal.invariant_of-self-2
invariant_of-self-2 c =
    let planned : is_planned call.RemoveFile c.args.path.now c.args.self.now.planned ≡ false = sym c.fails.ensures.planned ∙ c.if-fails.false in
    let same = c.fails.ensures.counted ∙ ap (λ b. answered b c.args.self.now) planned in
    let free : remove_file_refusal (get c.self.inside.held.files c.args.path.now) ≡ None = sym c.in_ok-refused.ensures.told ∙ c.in_default.is in
    let held = ap (λ (h : Lending). record h { files = remove h.files c.args.path.now }) c.remove_file_refusal.ensures.same in
    remove_file_ground {B = ⊥} (Ok tt) c.self.inside.held c.take.new.self c.args.path.now c.self.invariant
    (subst (λ a. IsTrue (is_open a c.args.path.now)) (sym (ap (λ m. m.area) (c.self.view_is ∙ same))) c.requires) free (c.in_ok-take.ensures.ok ∙ held) tt
