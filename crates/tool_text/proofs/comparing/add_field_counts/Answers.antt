use Rattle.tool_text.proofs.Prelude.{◌≡◌, ◌∙◌, ℕ, List, ◌++◌, ap, append_assoc, codes, rules, labelled}
use Rattle.tool_text.proofs.comparing.add_field_counts.Goals as goal

three : (d l m n a b c : List ℕ) → l ≡ d ++ a → m ≡ l ++ b → n ≡ m ++ c → n ≡ d ++ (a ++ b ++ c)
three d l m n a b c e f g =
    g ∙ ap (λ x. x ++ c) f ∙ ap (λ x. (x ++ b) ++ c) e ∙ ap (λ x. x ++ c) (append_assoc d a b) ∙ append_assoc d (a ++ b) c

pub returns : goal.returns
returns c =
    let counts = c.args.counts in
    record {
      ok = three c.args.draft.now.1 _ _ _
          (labelled (codes " differ_type ") counts.kind)
          (labelled (codes " differ_size ") counts.size)
          (labelled (codes " differ_content ") counts.content)
          c.in_ok-put_count.ensures.ok c.in_ok-put_count-2.ensures.ok c.in_ok-put_count-3.ensures.ok;
      stands = search rules;
    }
