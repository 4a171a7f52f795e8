-- `put_tag` meets its contract: the stores of each branch are the octets of the tag.
-- Assumes nothing.
use Rattle.octets.proofs.Tagging.{put_short, put_one, put_two, put_three}
use Rattle.octets.proofs.tags.put_tag.Goals as goal

pub returns-then-short : goal.returns-then-short
returns-then-short c = put_short _ _ _ _ c.if-short.true c.put.ensures

pub returns-then-number-lt128 : goal.returns-then-number-lt128
returns-then-number-lt128 c =
    put_one _ _ _ _ c.if-short.false c.put-2.ensures
    c.if-number-lt128.true c.put-then-number-lt128.ensures

pub returns-then-number-lt16384 : goal.returns-then-number-lt16384
returns-then-number-lt16384 c =
    put_two _ _ _ _ c.if-short.false c.put-2.ensures
    c.if-number-lt128.false c.if-number-lt16384.true
    c.put-then-number-lt16384.ensures c.put-then-number-lt16384-2.ensures

pub returns : goal.returns
returns c =
    put_three _ _ _ _ c.if-short.false c.put-2.ensures c.if-number-lt16384.false c.requires.2
    c.put-3.ensures c.put-4.ensures c.put-5.ensures
