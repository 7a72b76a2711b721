-- The definition's steps: the code, then the indices of its kind.
use Rattle.wire.proofs.Reading.{ends_code, ends_split, found_split, ends_loop, ends_place, found_union, found_plain}
use Rattle.wire.proofs.reader.OperationReader.read_operation.Goals as goal

pub returns-in_err-code : goal.returns-in_err-code
returns-in_err-code c = rw c.from_residual.ensures (ends_code _ _ c.in_err-code.ensures)

pub returns-in_err-i-in-Split : goal.returns-in_err-i-in-Split
returns-in_err-i-in-Split c =
    rw c.from_residual-in_err-i-in-Split.ensures
    (ends_split _ _ _ _ c.in_ok-code.ensures _ c.kind_of-kind.ensures _ c.in-Split.is c.in_err-i-in-Split.ensures)

pub returns-in_err-p-in-Union : goal.returns-in_err-p-in-Union
returns-in_err-p-in-Union c =
    rw c.from_residual-in_err-p-in-Union.ensures
    (ends_loop _ _ _ _ c.in_ok-code.ensures _ c.kind_of-kind.ensures _ _ c.in-Union.is c.in_err-p-in-Union.ensures)

pub returns-in_err-j-in-Union : goal.returns-in_err-j-in-Union
returns-in_err-j-in-Union c =
    rw c.from_residual-in_err-j-in-Union.ensures
    (ends_place _ _ _ _ c.in_ok-code.ensures _ c.kind_of-kind.ensures _ _ _ _ c.in-Union.is c.in_ok-p-in-Union.ensures
    c.in_err-j-in-Union.ensures)

pub returns-in_ok-i-in-Split : goal.returns-in_ok-i-in-Split
returns-in_ok-i-in-Split c =
    found_split _ _ _ _ c.in_ok-code.ensures _ c.kind_of-kind.ensures _ _ _ c.in-Split.is c.in_ok-i-in-Split.ensures

pub returns-in_ok-j-in-Union : goal.returns-in_ok-j-in-Union
returns-in_ok-j-in-Union c =
    found_union _ _ _ _ c.in_ok-code.ensures _ c.kind_of-kind.ensures _ _ _ _ c.in-Union.is c.in_ok-p-in-Union.ensures _ _
    c.in_ok-j-in-Union.ensures

pub returns-in_default : goal.returns-in_default
returns-in_default c =
    found_plain _ _ _ _ c.in_ok-code.ensures _ c.kind_of-kind.ensures c.in_default.not-Split c.in_default.not-Union
