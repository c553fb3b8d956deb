-- The bytes that a writer is given for a message's body, by the fields that the body says.
use Rattle.std.specs.Prelude.{List, [], ℕ}
use Rattle.xdr.specs.Format.{encode}
use Rattle.record.specs.File.{files}
use Rattle.record.specs.KeyValue.{options}
use Rattle.message.specs.Limits.{files_limit, options_limit}
use Rattle.message.specs.Message.{Kind, is_index, is_request, is_response, is_ping, is_pong, is_index_update, is_options, Body}
use Rattle.message.specs.declared.edition.Edition.{Edition}
use Rattle.message_write.specs.Writing.{index_bytes, request_bytes, response_bytes}

-- files and options are given as encoded arrays
abbrev pub body_bytes : (ed : Edition) (k : Kind) → Body ed k → List ℕ
body_bytes ed is_index b = index_bytes ed b.0 (encode (files files_limit) b.1)
body_bytes ed is_request b = request_bytes ed b.repository b.name b.offset b.size b.hash
body_bytes ed is_response b = response_bytes b
body_bytes ed is_ping b = []
body_bytes ed is_pong b = []
body_bytes ed is_index_update b = index_bytes ed b.0 (encode (files files_limit) b.1)
body_bytes ed is_options b = encode (options options_limit) b
