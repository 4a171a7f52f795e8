-- Nothing to show, or the last of a string's own octets.
-- Assumes nothing.
use Rattle.x696.proofs.TableRows.{kind_known}
use Rattle.showing.proofs.TextLaws.{text_none, text_shown, text_refused, text_absent, text_other, text_fits}
use Rattle.showing.proofs.TextLaws.{text_part}
use Rattle.showing.proofs.texts.find_text.Goals as goal

pub returns-then-s : goal.returns-then-s
returns-then-s c = text_none (text_absent _ _ _ _ _ (c.find_in.ensures.went _ c.in-Ok.is) c.if-s.true)

pub known_kind-kind-requires : goal.known_kind-kind-requires
known_kind-kind-requires c =
    let placed = c.find_in.ensures.went _ c.in-Ok.is in
    let known = kind_known _ _ _ (placed.sound.row _ placed.spot.inside) in
    (placed.spot.inside, known.0, known.1)

pub overflow_sub-result : goal.overflow_sub-result
overflow_sub-result c =
    text_fits _ _ _ _ _ (c.find_in.ensures.went _ c.in-Ok.is) c.if-s.false c.known_kind-kind.ensures
    c.in-OctetString.is c.contents_size.ensures

pub returns-in-OctetString : goal.returns-in-OctetString
returns-in-OctetString c =
    text_shown (text_part _ _ _ _ _ (c.find_in.ensures.went _ c.in-Ok.is) c.if-s.false
    c.known_kind-kind.ensures c.in-OctetString.is c.contents_size.ensures)

pub returns-in_default : goal.returns-in_default
returns-in_default c =
    text_none (text_other _ _ _ _ _ (c.find_in.ensures.went _ c.in-Ok.is) c.if-s.false
    c.known_kind-kind.ensures c.in_default.not-OctetString c.in_default.not-BitString c.in_default.not-VisibleString)

pub returns-in-Err : goal.returns-in-Err
returns-in-Err c = text_none (text_refused _ _ _ _ _ (c.find_in.ensures.stopped _ c.in-Err.is))
