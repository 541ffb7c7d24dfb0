-- The tags of elements, requests and responses, the result codes that are told apart, and the version of a Bind
-- (RFC 4511, sections 4 and 5.1 and appendix A).
use Rattle.std.specs.Prelude.{ℕ}

-- universal elements: Boolean, Integer, Octet String, Enumerated and Sequence
abbrev pub boolean : ℕ
boolean = 0x01

abbrev pub integer : ℕ
integer = 0x02

abbrev pub octet_string : ℕ
octet_string = 0x04

abbrev pub enumerated : ℕ
enumerated = 0x0A

abbrev pub sequence : ℕ
sequence = 0x30

-- requests
abbrev pub bind_request : ℕ
bind_request = 0x60

abbrev pub unbind_request : ℕ
unbind_request = 0x42

abbrev pub search_request : ℕ
search_request = 0x63

abbrev pub modify_request : ℕ
modify_request = 0x66

abbrev pub add_request : ℕ
add_request = 0x68

abbrev pub delete_request : ℕ
delete_request = 0x4A

abbrev pub modify_dn_request : ℕ
modify_dn_request = 0x6C

abbrev pub compare_request : ℕ
compare_request = 0x6E

abbrev pub abandon_request : ℕ
abandon_request = 0x50

abbrev pub extended_request : ℕ
extended_request = 0x77

-- responses
abbrev pub bind_response : ℕ
bind_response = 0x61

abbrev pub search_entry : ℕ
search_entry = 0x64

abbrev pub search_done : ℕ
search_done = 0x65

abbrev pub modify_response : ℕ
modify_response = 0x67

abbrev pub add_response : ℕ
add_response = 0x69

abbrev pub delete_response : ℕ
delete_response = 0x6B

abbrev pub modify_dn_response : ℕ
modify_dn_response = 0x6D

abbrev pub compare_response : ℕ
compare_response = 0x6F

abbrev pub search_reference : ℕ
search_reference = 0x73

abbrev pub extended_response : ℕ
extended_response = 0x78

abbrev pub intermediate_response : ℕ
intermediate_response = 0x79

-- within them: the two methods of a Bind that are read; name and value of an Extended request; name and value of an
-- Extended response; and the list of controls
abbrev pub simple_method : ℕ
simple_method = 0x80

abbrev pub sasl_method : ℕ
sasl_method = 0xA3

abbrev pub request_name : ℕ
request_name = 0x80

abbrev pub request_value : ℕ
request_value = 0x81

abbrev pub response_name : ℕ
response_name = 0x8A

abbrev pub response_value : ℕ
response_value = 0x8B

abbrev pub control_list : ℕ
control_list = 0xA0

-- result codes
abbrev pub success : ℕ
success = 0

abbrev pub bind_in_progress : ℕ
bind_in_progress = 14

abbrev pub protocol_error : ℕ
protocol_error = 2

-- the version of the protocol that a Bind has to have
abbrev pub bind_version : ℕ
bind_version = 3
