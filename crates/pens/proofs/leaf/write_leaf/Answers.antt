-- From the flat answers to a pen's: a number, or what stands before a string's contents and a copy of them.
-- Assumes nothing.
use mathlib.Core.Path.{refl}
use native.Mathlib.Omega.{arith}
use Rattle.table.proofs.KindNumbers.{is_string, number_left}
use Rattle.x696.proofs.TableRows.{kind_known}
use Rattle.pens.proofs.Behind.{number_stops, number_goes, string_stops, string_goes}
use Rattle.pens.proofs.leaf.write_leaf.Goals as goal

pub known_kind-kind-requires : goal.known_kind-kind-requires
known_kind-kind-requires c = let known = kind_known _ _ _ c.requires.1 in (c.requires.0, known.0, known.1)

pub begin_string-requires : goal.begin_string-requires
begin_string-requires c =
    let (more, less) = is_string refl c.in-OctetString.is in
    (c.requires.0, c.known_kind-kind.ensures, more, less, c.requires.4, c.requires.5, omega (arith, c.requires))

pub copy-requires : goal.copy-requires
copy-requires c =
    let h = c.begin_string.ensures.headed.went _ c.in-Ok.is in
    omega (arith, h.within)

pub overflow_add-result-in-Ok : goal.overflow_add-result-in-Ok
overflow_add-result-in-Ok c =
    let h = c.begin_string.ensures.headed.went _ c.in-Ok.is in
    omega (arith, h.within, c.requires)

pub overflow_add-result-in-Ok-2 : goal.overflow_add-result-in-Ok-2
overflow_add-result-in-Ok-2 c =
    let h = c.begin_string.ensures.headed.went _ c.in-Ok.is in
    omega (arith, h.within, h.stored.near, c.requires)

pub returns-in-Ok : goal.returns-in-Ok
returns-in-Ok c = string_goes c.begin_string.ensures _ c.in-Ok.is c.copy.ensures

pub returns-in-Err : goal.returns-in-Err
returns-in-Err c = string_stops c.begin_string.ensures _ c.in-Err.is c.at.ensures

pub write_number-requires : goal.write_number-requires
write_number-requires c =
    let less = number_left _ (omega (arith, c.known_kind-kind.ensures, c.requires.2)) c.in_default.not-OctetString
    c.in_default.not-BitString c.in_default.not-VisibleString in
    (c.requires.0, c.requires.1, c.known_kind-kind.ensures, less, omega (arith, c.requires))

pub returns-in-Ok-write_number : goal.returns-in-Ok-write_number
returns-in-Ok-write_number c = number_goes c.write_number.ensures _ _ _ c.in-Ok-write_number.is c.requires.4

pub returns-in-Err-write_number : goal.returns-in-Err-write_number
returns-in-Err-write_number c = number_stops c.write_number.ensures _ _ _ c.in-Err-write_number.is c.at-in-Err-write_number.ensures
