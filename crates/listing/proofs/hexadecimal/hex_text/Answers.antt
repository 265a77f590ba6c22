use Rattle.std.proofs.Common.{arith}
use Rattle.listing.proofs.Encoded.{encode_upper-is}
use Rattle.listing.proofs.hexadecimal.hex_text.Goals as goal

pub returns : goal.returns
returns c =
    let is = encode_upper-is c.args.bytes.now (λ k. omega (arith, c.type_inv.bytes k)) in
    rw (← is) c.encode_upper.ensures
