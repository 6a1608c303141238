-- What a rank does that is no event keeps what is true of all that is told.
use Rattle.post_board.proofs.Prelude.{◌≡◌, ℕ, ◌<◌, refl, sym, subst, ap, ◌∙◌, true, List, length, get_or-set_same, length-set, set-set, Token, vacant, empty}
use Rattle.post_board.proofs.Prelude.{Place, Told, no_place, place, put_place, Sound, refuse, take_none, Legal, told_after, withdraw, halt, stop, LegalLate}
use Rattle.post_board.proofs.Prelude.{told_late, LateKeepsSound}
use Rattle.post_board.proofs.DeedLemmas.{sound_after}

-- to take a request back is what it would be if the rank that has stopped had refused it
sound_withdrawn : (me from : ℕ) (t : Told) → LegalLate me (withdraw from) t → Sound t → Sound (told_late me (withdraw from) t)
sound_withdrawn me from t (acts, other, mail, gone, ended) sound =
    let mid : Told = told_after from (refuse me) t in
    let first : Sound mid = sound_after from (refuse me) t ((other.0, ended), (acts.0, (λ e. other.1 (sym e))), mail) sound in
    let size : length mid.places ≡ length t.places = length-set t.places me _ in
    let here : place mid me ≡ record (place t me) { mail = empty from } = get_or-set_same t.places me _ no_place acts.0 in
    let legal : Legal me (take_none from) mid = (
      (subst (λ (n : ℕ). me < n) (sym size) acts.0, ap (λ (x : Place). x.ended) here ∙ acts.1),
      (subst (λ (n : ℕ). from < n) (sym size) other.0, other.1),
      ap (λ (x : Place). x.mail) here,
    ) in
    subst Sound (ap (λ (x : Place). put_place mid me (record x { tried = true; mail = vacant })) here
    ∙ ap (λ (ps : List Place). record t { places = ps }) (set-set t.places me _ _)) (sound_after me (take_none from) mid legal first)

-- the words of the halt and of the stops are no part of it
pub sound_worded : (t t' : Told) → t'.places ≡ t.places → t'.token ≡ t.token → Sound t → Sound t'
sound_worded t t' places token sound =
    let P : List Place → Token → Type 0 = λ ps k. Sound (record { places = ps; token = k; halt = t'.halt; stops = t'.stops }) in
    let here : P t.places t.token = record {
      token = sound.token;
      sane = record {
        alone = sound.sane.alone;
        tried = sound.sane.tried;
        waits = sound.sane.waits;
        over = sound.sane.over;
        within = sound.sane.within;
      };
    } in
    subst (λ (ps : List Place). P ps t'.token) (sym places) (subst (λ (k : Token). P t.places k) (sym token) here)

pub late_sound : LateKeepsSound
late_sound me (withdraw from) t legal sound = sound_withdrawn me from t legal sound
late_sound me halt t legal sound = sound_worded t (record t { halt = true }) refl refl sound
late_sound me stop t legal sound = sound_worded t (told_late me stop t) refl refl sound
